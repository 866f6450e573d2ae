-- The runs before j stand at the front, and the buffer behind them is as it was.
use mathlib.Core.Path.{◌≡◌}
use mathlib.Core.List.{map}
use lib.ListN.{take}
use Rattle.lent.specs.Bytes.{front}
use Rattle.runs.specs.Bytes.{run_at, joined}
use Rattle.runs.proofs.list.put_runs.Given as goal

abbrev pub invariant-loop-j : goal.invariant-loop-j
invariant-loop-j l = l.out ≡ front (joined (map (run_at l.table) (take l.j l.places))) l.initial.out
