-- The marks before i say whether their delegations have that subject and that audience.
use Prim.Native.Nat.{ℕ, ◌<◌}
use mathlib.Core.Path.{◌≡◌}
use mathlib.Core.Bool.{false, cond}
use lib.ListN.{length, get_or}
use lib.Dec.{eqb}
use Rattle.keyline.specs.Limits.{delegation_limit}
use Rattle.lists.proofs.mark.between.Given as goal

abbrev pub invariant-loop-i : goal.invariant-loop-i
invariant-loop-i l = record {
  long : length l.on ≡ delegation_limit;
  marked : (k : ℕ) → k < l.i → get_or l.on k false ≡ cond (eqb (get_or l.subjects k 0) l.subject.0) (eqb (get_or l.audiences k 0) l.audience.0) false;
}
