-- Which runs stand in a list, and where; lists with no run twice, and how many such a list can have.
-- A list holds a run or it does not, and `has`, `place` and what stands at that place go together: `found` says so by one induction, and
-- what is asked of them one by one is read off it. Rests on BoolLaws and ByteLaws.
use Prim.Native.Nat.{ℕ, zero, suc, ◌+◌, ◌≤◌, ◌<◌, zero-le, suc-le-suc}
use mathlib.Core.Path.{◌≡◌, refl, sym, ap, ◌∙◌}
use mathlib.Core.Bool.{true, false, true≢false}
use mathlib.Core.Logic.{inl, inr}
use mathlib.Core.List.Memᴰ
use mathlib.Core.List.{List, [], ◌∷◌, ◌++◌, Memᴰ}
use mathlib.Mathlib.Data.Bool.Basic.{dichotomy}
use native.Mathlib.Omega.{arith}
use native.Mathlib.Nat.{le_of_suc-le-suc, not-suc-le-zero, le_antisymm}
use native.Mathlib.Decide.{dec_lt}
use lib.ListN.{length, take, drop, get_or, length-append, get_or-append}
use lib.Seq.{get_or-append_seam, split_at}
use Rattle.runs.specs.Bytes.{Bytes, eq_bytes}
use Rattle.runs.specs.Members.{place, has, Distinct, SameRuns}
use Rattle.runs.proofs.BoolLaws.{or, or_right, or_assoc}
use Rattle.runs.proofs.ByteLaws.{eq_true, eq_refl, eq_false}

-- ---- one run
data Found (l : List Bytes) (k : Bytes) : Type 0 where
  held : has l k ≡ true → place l k < length l → ((d : Bytes) → get_or l (place l k) d ≡ k) → Found l k
  absent : has l k ≡ false → place l k ≡ length l → Found l k

found : (l : List Bytes) (k : Bytes) → Found l k
unfolding has place
found [] k = absent refl refl
found (x ∷ l) k = elim (dichotomy (eq_bytes x k)) [
  | inl n ↦ elim (found l k) [ held h p g ↦ held (rw n h) (rw n (suc-le-suc p)) (λ d. rw n (g d)) | absent h p ↦ absent (rw n h) (rw n (ap suc p)) ]
  | inr e ↦ held (rw e) (rw e (suc-le-suc zero-le)) (λ d. rw e (eq_true x k e))
]

pub place_le : (l : List Bytes) (k : Bytes) → place l k ≤ length l
place_le l k = elim (found l k) [ held h p g ↦ omega arith | absent h p ↦ omega arith ]

-- what stands at a run's first place is the run
pub get_or_place : (l : List Bytes) (k d : Bytes) → place l k < length l → get_or l (place l k) d ≡ k
get_or_place l k d i = elim (found l k) [ held h p g ↦ g d | absent h p ↦ absurd (omega arith) ]

-- it is held exactly when that place is within the list
pub has_within : (l : List Bytes) (k : Bytes) → has l k ≡ true → place l k < length l
has_within l k i = elim (found l k) [ held h p g ↦ p | absent h p ↦ absurd (true≢false (sym i ∙ h)) ]

pub has_not : (l : List Bytes) (k : Bytes) → has l k ≡ false → place l k ≡ length l
has_not l k i = elim (found l k) [ held h p g ↦ absurd (true≢false (sym h ∙ i)) | absent h p ↦ p ]

pub within_has : (l : List Bytes) (k : Bytes) → place l k < length l → has l k ≡ true
within_has l k i = elim (found l k) [ held h p g ↦ h | absent h p ↦ absurd (omega arith) ]

pub end_not : (l : List Bytes) (k : Bytes) → length l ≤ place l k → has l k ≡ false
end_not l k i = elim (found l k) [ held h p g ↦ absurd (omega arith) | absent h p ↦ h ]

-- what stands at any place is held
pub has_get : (l : List Bytes) (i : ℕ) → i < length l → has l (get_or l i []) ≡ true
unfolding has
has_get [] i h = absurd (not-suc-le-zero h)
has_get (x ∷ l) zero h = rw (eq_refl x)
has_get (x ∷ l) (suc i) h = or_right (eq_bytes x (get_or l i [])) _ (has_get l i (le_of_suc-le-suc h))

-- ---- two lists, one behind the other
pub has-append : (l m : List Bytes) (k : Bytes) → has (l ++ m) k ≡ or (has l k) (has m k)
unfolding has
has-append [] m k = refl
has-append (x ∷ l) m k = rw (has-append l m k) (sym (or_assoc (eq_bytes x k) (has l k) (has m k)))

-- what the first has stands where it stood, and the rest behind it
place_left : (l m : List Bytes) (k : Bytes) → has l k ≡ true → place (l ++ m) k ≡ place l k
unfolding has place
place_left [] m k h = absurd (true≢false (sym h))
place_left (x ∷ l) m k h = elim (dichotomy (eq_bytes x k)) [ inl n ↦ rw n (ap suc (place_left l m k (rw n at h))) | inr e ↦ rw e ]

place_right : (l m : List Bytes) (k : Bytes) → has l k ≡ false → place (l ++ m) k ≡ length l + place m k
unfolding has place
place_right [] m k h = omega arith
place_right (x ∷ l) m k h = elim (dichotomy (eq_bytes x k)) [ inl n ↦ rw n (omega (arith, place_right l m k (rw n at h))) | inr e ↦ absurd (true≢false (rw e at h)) ]

-- a list that has x is what stands before x, x itself, and what stands behind it; taken out, x is all that it lacks
around : (l : List Bytes) (x : Bytes) → has l x ≡ true → (a b : List Bytes) × (l ≡ a ++ (x ∷ b))
around l x h = let p = has_within l x h in (take (place l x) l, drop (suc (place l x)) l, rw (get_or_place l x [] p) at (split_at l (place l x) [] p))

without : (a b : List Bytes) (x k : Bytes) → eq_bytes x k ≡ false → has (a ++ (x ∷ b)) k ≡ has (a ++ b) k
unfolding has
without a b x k n = rw (has-append a (x ∷ b) k, has-append a b k, n)

-- ---- as membership, of which the rules speak
pub mem_has : (x : Bytes) (l : List Bytes) → Memᴰ x l → has l x ≡ true
unfolding has
mem_has x [] m = elim m [ ]
mem_has x (y ∷ l) (Memᴰ.head e) = rw (e, eq_refl y)
mem_has x (y ∷ l) (Memᴰ.tail m) = or_right (eq_bytes y x) (has l x) (mem_has x l m)

pub has_mem : (x : Bytes) (l : List Bytes) → has l x ≡ true → Memᴰ x l
has_mem x l h = let s = around l x h in rw s.2 (Memᴰ.append_right s.0 (Memᴰ.head refl))

-- ---- lists with no run twice
-- a run that is not held may be added at the end
pub distinct_snoc : (l : List Bytes) (k : Bytes) → Distinct l → place l k ≡ length l → Distinct (l ++ (k ∷ []))
unfolding place
distinct_snoc l k f h i p = elim (dec_lt i (length l)) [
  | yes r ↦ rw (get_or-append l (k ∷ []) [] i r) (place_left l (k ∷ []) (get_or l i []) (has_get l i r) ∙ f i r)
  | no r ↦
      let e : i ≡ length l = omega (arith, length-append l (k ∷ [])) in
      rw (e, get_or-append_seam) (place_right l (k ∷ []) k (end_not l k (omega arith)) ∙ rw (eq_refl k) (omega arith))
]

-- a list without a repetition is a first run that the rest has not, and such a rest
pub distinct_head : (x : Bytes) (l : List Bytes) → Distinct (x ∷ l) → has l x ≡ false
unfolding place
distinct_head x l d = elim (found l x) [
  | held h p g ↦ let e : 0 ≡ suc (place l x) = rw (g [], eq_refl x) at (d (suc (place l x)) (suc-le-suc p)) in absurd (omega arith)
  | absent h p ↦ h
]

pub distinct_tail : (x : Bytes) (l : List Bytes) → Distinct (x ∷ l) → Distinct l
unfolding place
distinct_tail x l d i h = elim (dichotomy (eq_bytes x (get_or l i []))) [
  | inl n ↦ omega (arith, rw n at (d (suc i) (suc-le-suc h)))
  | inr e ↦ absurd (omega (arith, rw e at (d (suc i) (suc-le-suc h))))
]

-- two places hold one run only if they are one
pub distinct_same : (l : List Bytes) → Distinct l → (i j : ℕ) → i < length l → j < length l → get_or l i [] ≡ get_or l j [] → i ≡ j
distinct_same l d i j p q e = sym (d i p) ∙ rw e (d j q)

-- distinct runs that all stand in m are no more than m: the first of them stands somewhere in m, and the others stand before or behind it
pub within_le : (l m : List Bytes) → Distinct l → ((k : Bytes) → has l k ≡ true → has m k ≡ true) → length l ≤ length m
unfolding has
within_le [] m d f = zero-le
within_le (x ∷ l) m d f =
    let s = around m x (f x (rw (eq_refl x))) in
    let r = within_le l (s.0 ++ s.1) (distinct_tail x l d) (λ k h. rw (s.2, without s.0 s.1 x k (apart k h)) at (f k (or_right (eq_bytes x k) (has l k) h))) in
    omega (arith, simp length-append at (ap length s.2), length-append s.0 s.1)
  where
    apart : (k : Bytes) → has l k ≡ true → eq_bytes x k ≡ false
    apart k h = eq_false x k (λ e. true≢false (sym h ∙ (rw e at (distinct_head x l d))))

-- .. so distinct runs are as many as any others that are the same
pub same_long : (l m : List Bytes) → Distinct l → Distinct m → SameRuns l m → length l ≡ length m
same_long l m d e f = le_antisymm (within_le l m d (λ k h. sym (f k) ∙ h)) (within_le m l e (λ k h. f k ∙ h))
