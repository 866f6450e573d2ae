-- Laws of single runs: equality and order as tests, byte by byte; the run at a place. Rests on specs/Bytes.
use Prim.Native.Nat.{ℕ, suc, ◌+◌, ◌-◌, ◌*◌, ◌≤◌}
use mathlib.Core.Path.{◌≡◌, refl}
use mathlib.Core.Bool.{Bool, true, false, cond}
use mathlib.Core.List.{[], ◌∷◌}
use native.Mathlib.Omega.{arith}
use lib.ListN.{length, take, drop, length-drop}
use lib.Seq.{length-take-le, take_all}
use lib.Dec.{eqb}
use borrow.Author.Tests.{eqb-true, eq-eqb, ne_eqb}
use Rattle.runs.specs.Bytes.{Bytes, run_length, run_at, eq_bytes}

-- ---- equality
eq_go : (x y : ℕ) (a b : Bytes) (t : Bool) → eqb x y ≡ t → (eq_bytes a b ≡ true → a ≡ b) → cond t (eq_bytes a b) false ≡ true → x ∷ a ≡ y ∷ b
eq_go x y a b true e f h =
    let p : x ≡ y = eqb-true x y e in
    let q : a ≡ b = f h in cc
eq_go x y a b false e f h = let z : ◌≡◌ {A = ℕ} 0 1 = cc in absurd (omega arith)

pub eq_true : (a b : Bytes) → eq_bytes a b ≡ true → a ≡ b
unfolding eq_bytes
eq_true [] [] h = refl
eq_true [] (y ∷ ys) h = let z : ◌≡◌ {A = ℕ} 0 1 = cc in absurd (omega arith)
eq_true (x ∷ xs) [] h = let z : ◌≡◌ {A = ℕ} 0 1 = cc in absurd (omega arith)
eq_true (x ∷ xs) (y ∷ ys) h = eq_go x y xs ys (eqb x y) refl (eq_true xs ys) h

pub eq_refl : (a : Bytes) → eq_bytes a a ≡ true
unfolding eq_bytes
eq_refl [] = refl
eq_refl (x ∷ xs) = simp (eq-eqb x x refl) (eq_refl xs)

pub eq_same : (a b : Bytes) → a ≡ b → eq_bytes a b ≡ true
eq_same a b e = rw e (eq_refl b)

not_true : (t : Bool) → (t ≡ true → ⊥) → t ≡ false
not_true true h = absurd (h refl)
not_true false h = refl

pub eq_false : (a b : Bytes) → (a ≡ b → ⊥) → eq_bytes a b ≡ false
eq_false a b h = not_true (eq_bytes a b) (λ e. h (eq_true a b e))

pub eq_nil : (c : Bytes) → eqb (length c) 0 ≡ eq_bytes [] c
unfolding eq_bytes
eq_nil [] = refl
eq_nil (x ∷ c) = ne_eqb (suc (length c)) 0 (λ e. omega arith)

-- ---- the run at a place
module _ (b : Bytes) (i : ℕ) (fits : run_length * i + run_length ≤ length b) where
  pub length_run : length (run_at b i) ≡ run_length
  unfolding run_at
  length_run = length-take-le run_length (drop (run_length * i) b) (simp length-drop (omega arith))

-- a run, as a part of its table
pub run_part : (t : Bytes) (i : ℕ) → take (run_length * i + run_length - run_length * i) (drop (run_length * i) t) ≡ run_at t i
unfolding run_at
run_part t i = let e : run_length * i + run_length - run_length * i ≡ run_length = omega arith in rw e

-- a run by itself
pub run_whole : (b : Bytes) → length b ≡ run_length → run_at b 0 ≡ b
unfolding run_at
run_whole b h = take_all run_length b (omega arith)
