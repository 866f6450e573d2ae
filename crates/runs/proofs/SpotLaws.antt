-- Where a run stands in an ascending list, or would stand. Rests on AscentLaws.
use Prim.Native.Nat.{ℕ, zero, suc, ◌≤◌, ◌<◌, zero-le, suc-le-suc}
use mathlib.Core.Path.{◌≡◌, refl, sym, ap, ◌∙◌}
use mathlib.Core.Bool.{Bool, true, false, cond, false≢true}
use mathlib.Core.List.{List, [], ◌∷◌, ◌++◌}
use native.Mathlib.Nat.{le_of_suc-le-suc, not-suc-le-zero}
use lib.ListN.{length, take, drop, get_or}
use Rattle.rules.specs.Rules.{Ascending, done, before}
use Rattle.runs.specs.Bytes.{Bytes, Less, eq_bytes, lt_bytes}
use Rattle.runs.specs.Members.{has}
use Rattle.runs.specs.Sorted.{inserted, sorted_into, sorted, spot}
use Rattle.runs.proofs.ByteLaws.{eq_true}
use Rattle.runs.proofs.MemberLaws.{has_mem, has_get}
use Rattle.runs.proofs.AscentLaws.{lt_trans, lt_not_both, lt_total, lt_irrefl}

pub spot_le : (x : Bytes) (l : List Bytes) → spot x l ≤ length l
unfolding spot
spot_le x [] = zero-le
spot_le x (y ∷ l) = go (lt_bytes y x) (spot_le x l)
  where
    go : (t : Bool) → spot x l ≤ length l → cond t (suc (spot x l)) 0 ≤ suc (length l)
    go true h = suc-le-suc h
    go false h = zero-le

-- an element that is not below x stands at x's spot or behind it
pub spot_below : (x : Bytes) (l : List Bytes) (i : ℕ) → i < length l → lt_bytes (get_or l i []) x ≡ false → spot x l ≤ i
unfolding spot
spot_below x [] i h e = absurd (not-suc-le-zero h)
spot_below x (y ∷ l) zero h e = rw e zero-le
spot_below x (y ∷ l) (suc i) h e = go (lt_bytes y x) (spot_below x l i (le_of_suc-le-suc h) e)
  where
    go : (t : Bool) → spot x l ≤ i → cond t (suc (spot x l)) 0 ≤ suc i
    go true p = suc-le-suc p
    go false p = zero-le

-- and one that is below x stands before it
pub spot_above : (x : Bytes) (l : List Bytes) → Ascending Less l → (i : ℕ) → i < length l → Less (get_or l i []) x → i < spot x l
unfolding spot
spot_above x [] done i h e = absurd (not-suc-le-zero h)
spot_above x (y ∷ l) (before b t) zero h e = rw e (suc-le-suc zero-le)
spot_above x (y ∷ l) (before b t) (suc i) h e =
    let m = le_of_suc-le-suc h in
    let f : Less y x = lt_trans y (get_or l i []) x (b (get_or l i []) (has_mem (get_or l i []) l (has_get l i m))) e in
    rw f (suc-le-suc (spot_above x l t i m e))

-- a run that the list has stands at its spot
pub spot_held : (x : Bytes) (l : List Bytes) → Ascending Less l → has l x ≡ true → (spot x l < length l) × (get_or l (spot x l) [] ≡ x)
unfolding spot has
spot_held x [] done h = absurd (false≢true h)
spot_held x (y ∷ l) (before b t) h = go (lt_bytes y x) (eq_bytes y x) refl refl h (spot_held x l t)
  where
    go : (u v : Bool) → lt_bytes y x ≡ u → eq_bytes y x ≡ v → cond v true (has l x) ≡ true → (has l x ≡ true → (spot x l < length l) × (get_or l (spot x l) [] ≡ x))
        → (cond u (suc (spot x l)) 0 < suc (length l)) × (get_or (y ∷ l) (cond u (suc (spot x l)) 0) [] ≡ x)
    go true true p q e f = let s = eq_true y x q in absurd (lt_irrefl x (rw s at p))
    go true false p q e f = let r = f e in (suc-le-suc r.0, r.1)
    go false true p q e f = (suc-le-suc zero-le, eq_true y x q)
    go false false p q e f = absurd (false≢true (sym p ∙ b x (has_mem x l e)))

-- a run that it has not goes in there
pub inserted_spot : (x : Bytes) (l : List Bytes) → has l x ≡ false → inserted x l ≡ take (spot x l) l ++ (x ∷ drop (spot x l) l)
unfolding inserted spot has
inserted_spot x [] h = refl
inserted_spot x (y ∷ l) h = go (lt_bytes x y) (eq_bytes y x) (lt_bytes y x) refl refl refl h (inserted_spot x l)
  where
    go : (u v w : Bool) → lt_bytes x y ≡ u → eq_bytes y x ≡ v → lt_bytes y x ≡ w → cond v true (has l x) ≡ false → (has l x ≡ false → inserted x l ≡ take (spot x l) l ++ (x ∷ drop (spot x l) l))
        → cond u (x ∷ y ∷ l) (cond v (y ∷ l) (y ∷ inserted x l)) ≡ take (cond w (suc (spot x l)) 0) (y ∷ l) ++ (x ∷ drop (cond w (suc (spot x l)) 0) (y ∷ l))
    go true v true p q r e f = absurd (lt_not_both x y p r)
    go true v false p q r e f = refl
    go false true w p q r e f = absurd (false≢true (sym e))
    go false false true p q r e f = ap (λ (m : List Bytes). y ∷ m) (f e)
    go false false false p q r e f = absurd (false≢true (sym r ∙ lt_total x y p q))

-- one run more
into_snoc : (m l : List Bytes) (x : Bytes) → sorted_into m (l ++ (x ∷ [])) ≡ inserted x (sorted_into m l)
unfolding sorted_into
into_snoc m [] x = refl
into_snoc m (y ∷ l) x = into_snoc (inserted y m) l x

pub sorted_snoc : (l : List Bytes) (x : Bytes) → sorted (l ++ (x ∷ [])) ≡ inserted x (sorted l)
sorted_snoc l x = into_snoc [] l x
