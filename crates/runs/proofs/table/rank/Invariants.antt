-- The run's spot lies between low and high; the run in the middle of the order says on which side.
use Prim.Native.Nat.{◌-◌, ◌≤◌}
use Rattle.runs.specs.Sorted.{sorted, spot}
use Rattle.runs.specs.Table.{runs}
use Rattle.runs.proofs.table.rank.Given as goal

abbrev pub invariant-loop-low : goal.invariant-loop-low
invariant-loop-low l = (l.low ≤ spot l.run (sorted (runs l.table l.n))) × (spot l.run (sorted (runs l.table l.n)) ≤ l.high) × (l.high ≤ l.n)

abbrev pub decreases-loop-low : goal.decreases-loop-low
decreases-loop-low l = l.high - l.low
