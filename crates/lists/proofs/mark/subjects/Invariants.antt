-- The keys that the column's first ones name are marked.
use Prim.Native.Nat.{ℕ}
use mathlib.Core.Path.{◌≡◌}
use mathlib.Core.Bool.{false}
use lib.ListN.{length, get_or, take}
use Rattle.keyline.specs.Limits.{key_limit}
use Rattle.lists.specs.Marks.{among}
use Rattle.lists.proofs.mark.subjects.Given as goal

abbrev pub invariant-loop-key : goal.invariant-loop-key
invariant-loop-key l = record {
  long : length l.on ≡ key_limit;
  marked : (k : ℕ) → get_or l.on k false ≡ among k (take l.key-index l.subject);
}
