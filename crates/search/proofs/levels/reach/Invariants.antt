-- `search::levels::reach` meets its contract. The loop's invariant: the words below r are the roots' lowest ones.
use Prim.Native.Nat.{ℕ, ◌<◌}
use mathlib.Core.Path.{◌≡◌}
use lib.ListN.{get_or, length}
use Rattle.places.specs.Limits.{key_limit}
use Rattle.search.specs.Levels.{word}
use Rattle.search.proofs.levels.reach.Given as goal

abbrev pub invariant-loop-r : goal.invariant-loop-r
invariant-loop-r l = (length l.words ≡ key_limit) × ((k : ℕ) → k < l.r → get_or l.words k 0 ≡ word l.levels k 0)
