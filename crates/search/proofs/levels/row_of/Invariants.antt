-- `search::levels::row_of` meets its contract. The loop's invariant: the bytes below x are the keys' heights.
use Prim.Native.Nat.{ℕ, ◌<◌}
use mathlib.Core.Path.{◌≡◌}
use lib.ListN.{get_or, length}
use Rattle.places.specs.Limits.{key_limit}
use Rattle.search.specs.Levels.{height}
use Rattle.search.proofs.levels.row_of.Given as goal

abbrev pub invariant-loop-x : goal.invariant-loop-x
invariant-loop-x l = (length l.row ≡ key_limit) × ((y : ℕ) → y < l.x → get_or l.row y 0 ≡ height l.levels l.root.0 y)
