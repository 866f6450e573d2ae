-- The runs of a list that another has not, each once: what the two have together, and how many.
-- A list with the fresh runs of another behind it is that list with the other's runs added one after the other (`with_one`, `fresh_step`):
-- each law is one of adding a single run, carried along the list. Rests on MemberLaws.
use Prim.Native.Nat.{◌+◌, ◌≤◌, zero-le}
use mathlib.Core.Path.{◌≡◌, refl, sym, ◌∙◌}
use mathlib.Core.Bool.{Bool, true, false, cond}
use mathlib.Core.Logic.{inl, inr}
use mathlib.Core.List.{List, [], ◌∷◌, ◌++◌, append_assoc, append-nil}
use mathlib.Mathlib.Data.Bool.Basic.{dichotomy}
use native.Mathlib.Omega.{arith}
use native.Mathlib.Nat.{not-suc-le-zero}
use lib.ListN.{length}
use Rattle.runs.specs.Bytes.{Bytes, eq_bytes}
use Rattle.runs.specs.Members.{has, fresh, Distinct, SameRuns}
use Rattle.runs.proofs.BoolLaws.{or, or_none, or_assoc, or_within}
use Rattle.runs.proofs.ByteLaws.{eq_true}
use Rattle.runs.proofs.MemberLaws.{has-append, has_not, distinct_snoc, same_long}

-- ---- one run added, where it is not held
abbrev pub with_one : List Bytes → Bytes → List Bytes
with_one l k = cond (has l k) l (l ++ (k ∷ []))

with_has : (l : List Bytes) (k x : Bytes) → has (with_one l k) x ≡ or (has l x) (eq_bytes k x)
unfolding has
with_has l k x = elim (dichotomy (has l k)) [
  | inl n ↦ rw (n, has-append l (k ∷ []) x, or_none (eq_bytes k x))
  | inr h ↦ rw h (sym (or_within (has l x) (eq_bytes k x) (λ e. rw (← eq_true k x e) h)))
]

with_distinct : (l : List Bytes) (k : Bytes) → Distinct l → Distinct (with_one l k)
with_distinct l k d = elim (dichotomy (has l k)) [ inl n ↦ rw n (distinct_snoc l k d (has_not l k n)) | inr h ↦ rw h d ]

-- ---- a list with the fresh runs of ks
-- no run adds nothing, and the first is added before the others
fresh_end : (l : List Bytes) → l ++ fresh l [] ≡ l
unfolding fresh
fresh_end l = append-nil l

fresh_step : (l : List Bytes) (k : Bytes) (ks : List Bytes) → l ++ fresh l (k ∷ ks) ≡ with_one l k ++ fresh (with_one l k) ks
unfolding fresh
fresh_step l k ks = elim (dichotomy (has l k)) [ inl n ↦ rw n (sym (append_assoc l (k ∷ []) _)) | inr h ↦ rw h ]

-- one run, held or not
pub fresh_one : (l : List Bytes) (k : Bytes) → has l k ≡ true → l ++ fresh l (k ∷ []) ≡ l
fresh_one l k h = rw (fresh_step l k [], h) (fresh_end l)

pub fresh_new : (l : List Bytes) (k : Bytes) → has l k ≡ false → l ++ fresh l (k ∷ []) ≡ l ++ (k ∷ [])
fresh_new l k h = rw (fresh_step l k [], h) (fresh_end (l ++ (k ∷ [])))

-- it has the runs of both, and none twice if l has none
pub fresh_has : (l ks : List Bytes) (k : Bytes) → has (l ++ fresh l ks) k ≡ or (has l k) (has ks k)
unfolding has
fresh_has l [] k = rw (fresh_end l, or_none (has l k))
fresh_has l (x ∷ ks) k = rw (fresh_step l x ks) (fresh_has (with_one l x) ks k ∙ rw (with_has l x k) (or_assoc (has l k) (eq_bytes x k) (has ks k)))

pub fresh_distinct : (l ks : List Bytes) → Distinct l → Distinct (l ++ fresh l ks)
fresh_distinct l [] d = rw (fresh_end l) d
fresh_distinct l (x ∷ ks) d = rw (fresh_step l x ks) (fresh_distinct (with_one l x) ks (with_distinct l x d))

-- fresh ones, and then further fresh ones
pub fresh_more : (l ks js : List Bytes) → (l ++ fresh l ks) ++ fresh (l ++ fresh l ks) js ≡ l ++ fresh l (ks ++ js)
fresh_more l [] js = rw (fresh_end l)
fresh_more l (x ∷ ks) js = rw (fresh_step l x ks, fresh_step l x (ks ++ js)) (fresh_more (with_one l x) ks js)

-- which are fresh is settled by the runs that l has
pub fresh_same : (l m ks : List Bytes) → SameRuns l m → fresh l ks ≡ fresh m ks
unfolding fresh
fresh_same l m [] f = refl
fresh_same l m (k ∷ ks) f = cc (f k, fresh_same l m ks f, fresh_same (l ++ (k ∷ [])) (m ++ (k ∷ [])) ks (λ x. rw (has-append l (k ∷ []) x, has-append m (k ∷ []) x, f x)))

-- ---- the distinct runs of ks
pub all_has : (ks : List Bytes) (k : Bytes) → has (fresh [] ks) k ≡ has ks k
unfolding has
all_has ks k = fresh_has [] ks k

pub none_distinct : Distinct []
none_distinct i h = absurd (not-suc-le-zero h)

pub all_distinct : (ks : List Bytes) → Distinct (fresh [] ks)
all_distinct ks = fresh_distinct [] ks none_distinct

-- a table that has exactly the runs of ks has as many as there are distinct ones
pub count_same : (l ks : List Bytes) → Distinct l → SameRuns l ks → length l ≡ length (fresh [] ks)
count_same l ks d f = same_long l (fresh [] ks) d (all_distinct ks) (λ k. f k ∙ sym (all_has ks k))

-- ---- how many: each run counts for one or for none
pub fresh_none : (l : List Bytes) → length (fresh l []) ≡ 0
unfolding fresh
fresh_none l = refl

pub fresh_count : (l : List Bytes) (k : Bytes) (ks : List Bytes) → length (fresh l (k ∷ ks)) ≡ cond (has l k) 0 1 + length (fresh (with_one l k) ks)
unfolding fresh
fresh_count l k ks = elim (dichotomy (has l k)) [ inl n ↦ rw n (omega arith) | inr h ↦ rw h (omega arith) ]

pub fresh_le : (l ks : List Bytes) → length (fresh l ks) ≤ length ks
fresh_le l [] = rw (fresh_none l) zero-le
fresh_le l (x ∷ ks) = rw (fresh_count l x ks) (omega (arith, fresh_le (with_one l x) ks, one (has l x)))
  where
    one : (t : Bool) → cond t 0 1 ≤ 1
    one true = omega arith
    one false = omega arith

-- a delegation brings three keys
pub fresh_three : (l : List Bytes) (a b c : Bytes)
    → length (fresh l (a ∷ b ∷ c ∷ [])) ≡ cond (has l a) 0 1 + cond (or (has l b) (eq_bytes a b)) 0 1 + cond (or (or (has l c) (eq_bytes a c)) (eq_bytes b c)) 0 1
fresh_three l a b c = rw (fresh_count, fresh_count, fresh_count, fresh_none, with_has (with_one l a) b c, with_has l a c, with_has l a b) (omega arith)
