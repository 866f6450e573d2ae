-- Document 01's numbers: the layout's places and lengths are the ones that it names, refusals are numbered from 1 on, and a number with the
-- value beside it says which refusal it is, so that nothing is lost where only the two are handed on.
use Prim.Native.Nat.{ℕ, ◌≤◌}
use mathlib.Core.Path.{◌≡◌, refl, sym, ap, ◌∙◌}
use mathlib.Core.Bool.{cond}
use lib.Dec.{eqb, lit≤}
use Rattle.keyline.specs.Limits.{power_at, tag_at, payload_length, cited_length}
use Rattle.keyline.specs.Refusal.{number_of, beside_of, refusal_count}
use Rattle.keyline.specs.declared.refusal.Refusal.{Refusal}
use Rattle.keyline.specs.declared.refusal.Refusal.TheVariants.{BadLength, UnexpectedEnd, TrailingBytes, InvalidTag, Conflict, FullDelegations, FullRevocations, FullKeys, SmallBuffer}

-- "Length 66 or 98", with the power byte and the tag just before
pub layout : (power_at ≡ 64) × (tag_at ≡ 65) × (payload_length ≡ 66) × (cited_length ≡ 98)
layout = (refl, refl, refl, refl)

-- 0 is nobody's number, and the last is the count
pub number_range : (r : Refusal) → (1 ≤ number_of r) × (number_of r ≤ refusal_count)
number_range (BadLength n) = (lit≤ tt, lit≤ tt)
number_range UnexpectedEnd = (lit≤ tt, lit≤ tt)
number_range TrailingBytes = (lit≤ tt, lit≤ tt)
number_range (InvalidTag b) = (lit≤ tt, lit≤ tt)
number_range Conflict = (lit≤ tt, lit≤ tt)
number_range FullDelegations = (lit≤ tt, lit≤ tt)
number_range FullRevocations = (lit≤ tt, lit≤ tt)
number_range (FullKeys n) = (lit≤ tt, lit≤ tt)
number_range (SmallBuffer n) = (lit≤ tt, lit≤ tt)

-- the refusal from its number n and the value v beside it
refusal_of : ℕ → ℕ → Refusal
refusal_of n v =
    cond (eqb n 1) (BadLength v)
    (cond (eqb n 2) UnexpectedEnd
    (cond (eqb n 3) TrailingBytes
    (cond (eqb n 4) (InvalidTag v)
    (cond (eqb n 5) Conflict
    (cond (eqb n 6) FullDelegations
    (cond (eqb n 7) FullRevocations
    (cond (eqb n 8) (FullKeys v) (SmallBuffer v))))))))

refusal_back : (r : Refusal) → refusal_of (number_of r) (beside_of r) ≡ r
unfolding refusal_of
refusal_back (BadLength n) = refl
refusal_back UnexpectedEnd = refl
refusal_back TrailingBytes = refl
refusal_back (InvalidTag b) = refl
refusal_back Conflict = refl
refusal_back FullDelegations = refl
refusal_back FullRevocations = refl
refusal_back (FullKeys n) = refl
refusal_back (SmallBuffer n) = refl

pub same_refusal : (r q : Refusal) → number_of r ≡ number_of q → beside_of r ≡ beside_of q → r ≡ q
same_refusal r q e f = sym (refusal_back r) ∙ ap (λ n. refusal_of n (beside_of r)) e ∙ ap (λ v. refusal_of (number_of q) v) f ∙ refusal_back q
