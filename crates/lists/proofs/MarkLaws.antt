-- Marks, one after the other. Rests on nothing.
use Prim.Native.Nat.{ℕ, zero, suc, ◌+◌, ◌≤◌, ◌<◌}
use mathlib.Core.Path.{◌≡◌, refl, sym, ◌∙◌}
use mathlib.Core.Bool.{Bool, true, false, cond}
use mathlib.Core.List.{List, [], ◌∷◌, ◌++◌}
use native.Mathlib.Omega.{arith}
use native.Mathlib.Numerals.{add-one}
use native.Mathlib.Nat.{le_of_suc-le-suc}
use lib.ListN.{length, take, get_or, set}
use lib.Seq.{take-suc, get_or-set_same, get_or-set_other}
use lib.Dec.{eqb}
use borrow.Author.Tests.{eqb-true, eqb-false, eq-eqb}
use Rattle.lists.specs.Marks.{among}

-- the marks below i are P's, and so is the one at i
pub marked_more : (P : ℕ → Bool) (on : List Bool) (i : ℕ) (v : Bool) → i < length on → ((k : ℕ) → k < i → get_or on k false ≡ P k) → v ≡ P i
    → (k : ℕ) → k < i + 1 → get_or (set on i v) k false ≡ P k
marked_more P on i v h f e k p = go (eqb k i) refl
  where
    go : (t : Bool) → eqb k i ≡ t → get_or (set on i v) k false ≡ P k
    go true q = rw (eqb-true k i q, get_or-set_same on i v false h) e
    go false q = let m = eqb-false k i q in rw (get_or-set_other on i k v false m) (f k (omega arith))

among_snoc : (k : ℕ) (l : List ℕ) (i : ℕ) → among k (l ++ (i ∷ [])) ≡ cond (eqb i k) true (among k l)
unfolding among
among_snoc k [] i = refl
among_snoc k (x ∷ l) i = go (eqb x k) (eqb i k) (among_snoc k l i)
  where
    go : (t u : Bool) → among k (l ++ (i ∷ [])) ≡ cond u true (among k l) → cond t true (among k (l ++ (i ∷ []))) ≡ cond u true (cond t true (among k l))
    go true true e = refl
    go true false e = refl
    go false u e = e

-- the marks are on the first i of a column, and the next is put on
pub among_more : (on : List Bool) (column : List ℕ) (i j : ℕ) → i < length column → j < length on → j ≡ get_or column i 0 → ((k : ℕ) → get_or on k false ≡ among k (take i column))
    → (k : ℕ) → get_or (set on j true) k false ≡ among k (take (i + 1) column)
among_more on column i j h r e f k =
    let s : take (i + 1) column ≡ take i column ++ (j ∷ []) = rw (add-one i) (take-suc column i 0 h ∙ rw (← e)) in
    rw (s, among_snoc k (take i column) j) (go (eqb j k) refl)
  where
    go : (t : Bool) → eqb j k ≡ t → get_or (set on j true) k false ≡ cond t true (among k (take i column))
    go true q = rw (← eqb-true j k q) (get_or-set_same on j true false r)
    go false q = let m = eqb-false j k q in get_or-set_other on j k true false (λ z. m (sym z)) ∙ f k

-- a number among the first n of a column stands at one of them
pub record Stands (k n : ℕ) (column : List ℕ) : Type 0 where
  pub at : ℕ
  pub within : at < n
  pub is : get_or column at 0 ≡ k

pub among_stands : (k n : ℕ) (column : List ℕ) → n ≤ length column → among k (take n column) ≡ true → Stands k n column
unfolding among
among_stands k zero column h e = let z : ◌≡◌ {A = ℕ} 0 1 = cc in absurd (omega arith)
among_stands k (suc n) [] h e = absurd (omega arith)
among_stands k (suc n) (x ∷ l) h e = go (eqb x k) refl e (among_stands k n l (le_of_suc-le-suc h))
  where
    go : (t : Bool) → eqb x k ≡ t → cond t true (among k (take n l)) ≡ true → (among k (take n l) ≡ true → Stands k n l) → Stands k (suc n) (x ∷ l)
    go true q e f = record { at = 0; within = omega arith; is = eqb-true x k q }
    go false q e f = let s = f e in let w = s.within in record { at = suc s.at; within = omega arith; is = s.is }

at_among : (k n : ℕ) (column : List ℕ) → n ≤ length column → (i : ℕ) → i < n → get_or column i 0 ≡ k → among k (take n column) ≡ true
unfolding among
at_among k zero column h i w e = absurd (omega (arith, w))
at_among k (suc n) [] h i w e = absurd (omega arith)
at_among k (suc n) (x ∷ l) h zero w e = rw (eq-eqb x k e)
at_among k (suc n) (x ∷ l) h (suc i) w e = go (eqb x k) (at_among k n l (le_of_suc-le-suc h) i (le_of_suc-le-suc w) e)
  where
    go : (t : Bool) → among k (take n l) ≡ true → cond t true (among k (take n l)) ≡ true
    go true f = refl
    go false f = f

pub stands_among : (k n : ℕ) (column : List ℕ) → n ≤ length column → Stands k n column → among k (take n column) ≡ true
stands_among k n column h s = at_among k n column h s.at s.within s.is
