-- `search::levels::level` meets its contract. The loop's invariant: v is the height below l.
use Prim.Native.Nat.{◌≤◌}
use mathlib.Core.Path.{◌≡◌}
use Rattle.search.specs.Levels.{height_below}
use Rattle.search.proofs.levels.level.Given as goal

abbrev pub invariant-loop-l : goal.invariant-loop-l
invariant-loop-l l = (l.v ≤ l.l) × (l.v ≡ height_below l.l l.levels l.r l.x)
