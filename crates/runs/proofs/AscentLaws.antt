-- The order of runs, and sorting: a sorted list is the ascending list of the runs that it was made from.
-- The order is stated as a relation (`Below`), whose laws are plain. `compare` settles once how two runs stand to each other, and what the
-- test `lt_bytes` says of them; all that is asked of the test, and of an insertion that goes by it, follows its three cases.
-- Rests on MemberLaws, and on `rules`, where two ascending lists of the same things are one.
use Prim.Native.Nat.{ℕ, ◌<◌}
use mathlib.Core.Path.{◌≡◌, refl, sym, ◌∙◌}
use mathlib.Core.Bool.{true, false, true≢false}
use mathlib.Core.Logic.{◌⊎◌, inl, inr}
use mathlib.Core.List.Memᴰ
use mathlib.Core.List.{List, [], ◌∷◌, Memᴰ}
use native.Mathlib.Omega.{arith}
use native.Mathlib.Nat.{le_trans, le_of_lt}
use native.Mathlib.Decide.{dec_lt}
use borrow.Author.Tests.{lt-ltb, le-ltb, eq-eqb, ne_eqb}
use Rattle.rules.specs.Rules.{Ascending, done, before, Lists}
use Rattle.rules.proofs.Evaluation.Listing.{lists_same}
use Rattle.runs.specs.Bytes.{Bytes, Less, eq_bytes, lt_bytes}
use Rattle.runs.specs.Members.{has, SameRuns}
use Rattle.runs.specs.Sorted.{inserted, sorted_into, sorted}
use Rattle.runs.proofs.BoolLaws.{or, or_cases, or_none, or_assoc, or_swap, or_twice}
use Rattle.runs.proofs.ByteLaws.{eq_true, eq_same, eq_false}
use Rattle.runs.proofs.MemberLaws.{mem_has, has_mem}

-- ---- the order as a relation
-- x ends first, or has the smaller byte where the two first differ
data Below : Bytes → Bytes → Type 0 where
  ends : {b : ℕ} {y : Bytes} → Below [] (b ∷ y)
  here : {a b : ℕ} {x y : Bytes} → a < b → Below (a ∷ x) (b ∷ y)
  later : {a : ℕ} {x y : Bytes} → Below x y → Below (a ∷ x) (a ∷ y)

chained : {x y z : Bytes} → Below x y → Below y z → Below x z
chained ends (here k) = ends
chained ends (later q) = ends
chained (here h) (here k) = here (le_trans h (le_of_lt k))
chained (here h) (later q) = here h
chained (later p) (here k) = here k
chained (later p) (later q) = later (chained p q)

apart : {x y : Bytes} → Below x y → ¬ (x ≡ y)
apart ends e = let z : ◌≡◌ {A = ℕ} 0 1 = cc in omega arith
apart (here {a = a} {b = b} h) e = let z : a ≡ b = cc in omega arith
apart (later q) e = apart q (cc)

-- ---- the order as the test
-- the three ways in which two runs can stand to each other, each with the outcome of the test
data Compared (x y : Bytes) : Type 0 where
  below : Below x y → Less x y → Compared x y
  same : x ≡ y → lt_bytes x y ≡ false → Compared x y
  above : Below y x → lt_bytes x y ≡ false → Compared x y

compare : (x y : Bytes) → Compared x y
unfolding lt_bytes
compare [] [] = same refl refl
compare [] (b ∷ y) = below ends refl
compare (a ∷ x) [] = above ends refl
compare (a ∷ x) (b ∷ y) = elim (dec_lt a b) [
  | yes h ↦ below (here h) (rw (lt-ltb a b h))
  | no h ↦
      let t = le-ltb a b (omega arith) in
      elim (dec_lt b a) [
        | yes k ↦ above (here k) (rw (t, ne_eqb a b (omega arith)))
        | no k ↦
            let e : a ≡ b = omega arith in
            let s : lt_bytes (a ∷ x) (b ∷ y) ≡ lt_bytes x y = rw (t, eq-eqb a b e) in
            elim (compare x y) [ below p u ↦ below (rw e (later p)) (s ∙ u) | same f u ↦ same (cc) (s ∙ u) | above p u ↦ above (rw e (later p)) (s ∙ u) ]
      ]
]

-- so the test comes out true for exactly the runs in the order
below_less : (x y : Bytes) → Below x y → Less x y
below_less x y p = elim (compare x y) [ below q t ↦ t | same e t ↦ absurd (apart p e) | above q t ↦ absurd (apart (chained p q) refl) ]

less_below : (x y : Bytes) → Less x y → Below x y
less_below x y h = elim (compare x y) [ below p t ↦ p | same e t ↦ absurd (true≢false (sym h ∙ t)) | above p t ↦ absurd (true≢false (sym h ∙ t)) ]

-- what the relation has, the test has
pub lt_trans : (x y z : Bytes) → Less x y → Less y z → Less x z
lt_trans x y z p q = below_less x z (chained (less_below x y p) (less_below y z q))

pub lt_irrefl : (x : Bytes) → ¬ Less x x
lt_irrefl x p = apart (less_below x x p) refl

pub lt_not_both : (x y : Bytes) → Less x y → ¬ Less y x
lt_not_both x y p q = lt_irrefl x (lt_trans x y x p q)

-- of two runs, the first neither below the second nor equal to it
pub lt_total : (x y : Bytes) → lt_bytes x y ≡ false → eq_bytes y x ≡ false → Less y x
lt_total x y p q = elim (compare x y) [
  | below r t ↦ absurd (true≢false (sym t ∙ p))
  | same e t ↦ absurd (true≢false (sym (eq_same y x (sym e)) ∙ q))
  | above r t ↦ below_less y x r
]

-- ---- one run put in: the list has that run more, and stays ascending
inserted_has : (x : Bytes) (l : List Bytes) (k : Bytes) → has (inserted x l) k ≡ or (eq_bytes x k) (has l k)
unfolding inserted has
inserted_has x [] k = refl
inserted_has x (y ∷ l) k = elim (compare x y) [
  | below p t ↦ rw t
  | same e t ↦ rw (t, eq_same y x (sym e), e) (sym (or_twice (eq_bytes y k) (has l k)))
  | above p t ↦ rw (t, eq_false y x (apart p), inserted_has x l k) (or_swap (eq_bytes y k) (eq_bytes x k) (has l k))
]

inserted_from : (x : Bytes) (l : List Bytes) (z : Bytes) → Memᴰ z (inserted x l) → (z ≡ x) ⊎ Memᴰ z l
inserted_from x l z m = elim (or_cases (eq_bytes x z) (has l z) (sym (inserted_has x l z) ∙ mem_has z (inserted x l) m)) [
  | inl e ↦ inl (sym (eq_true x z e))
  | inr h ↦ inr (has_mem z l h)
]

inserted_ascending : (x : Bytes) (l : List Bytes) → Ascending Less l → Ascending Less (inserted x l)
unfolding inserted
inserted_ascending x [] done = before (λ z m. absurd (Memᴰ.not-nil m)) done
inserted_ascending x (y ∷ l) (before b r) = elim (compare x y) [
  | below p t ↦ rw t (before {x = x} {xs = y ∷ l} (λ z m. elim (Memᴰ.cases_cons m) [ inl e ↦ rw e t | inr n ↦ lt_trans x y z t (b z n) ]) (before b r))
  | same e t ↦ rw (t, eq_same y x (sym e)) (before b r)
  | above p t ↦
      let rest = inserted_ascending x l r in
      rw (t, eq_false y x (apart p)) (before {x = y} {xs = inserted x l} (λ z m. elim (inserted_from x l z m) [ inl e ↦ rw e (below_less y x p) | inr n ↦ b z n ]) rest)
]

-- ---- the runs of a list put in one after the other
record Into (m l r : List Bytes) : Type 0 where
  ascending : Ascending Less r
  holds : (k : Bytes) → has r k ≡ or (has m k) (has l k)

into : (m l : List Bytes) → Ascending Less m → Into m l (sorted_into m l)
unfolding sorted_into has
into m [] a = record { ascending = a; holds = λ k. sym (or_none (has m k)) }
into m (x ∷ l) a =
    let r = into (inserted x m) l (inserted_ascending x m a) in
    record {
      ascending = r.ascending;
      holds = λ k. r.holds k ∙ rw (inserted_has x m k) (or_assoc (eq_bytes x k) (has m k) (has l k) ∙ or_swap (eq_bytes x k) (has m k) (has l k));
    }

pub into_ascending : (m l : List Bytes) → Ascending Less m → Ascending Less (sorted_into m l)
into_ascending m l a = (into m l a).ascending

pub sorted_has : (l : List Bytes) (k : Bytes) → has (sorted l) k ≡ has l k
unfolding has
sorted_has l k = (into [] l done).holds k

-- a sorted list is what the rules call a list of the runs: ascending, sound, complete
pub sorted_lists : (l : List Bytes) → Lists Less (λ x. has l x ≡ true) (sorted l)
sorted_lists l = record {
  ascending = into_ascending [] l done;
  sound = λ x m. sym (sorted_has l x) ∙ mem_has x (sorted l) m;
  complete = λ x h. has_mem x (sorted l) (sorted_has l x ∙ h);
}

-- so the list is settled by the runs that stand in it, in whatever order they came
pub sorted_same : (l m : List Bytes) → SameRuns l m → sorted l ≡ sorted m
sorted_same l m f = lists_same lt_not_both (λ x h. sym (f x) ∙ h) (λ x h. f x ∙ h) (sorted_lists l) (sorted_lists m)
