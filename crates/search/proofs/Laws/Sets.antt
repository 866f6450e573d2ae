-- Flags, and words with at most one member. Assumes nothing.
use Prim.Native.Nat.{ℕ, ◌^◌, ◌≤◌, ◌<◌}
use mathlib.Core.Path.{◌≡◌, refl, sym, ap, ◌∙◌}
use mathlib.Core.Bool.{Bool, true, false, ◌||◌}
use mathlib.Core.Logic.{◌⊎◌, inl, inr, ⊎_elim}
use native.Mathlib.Decide.{ℕ_discrete, dec_lt}
use native.Mathlib.Omega.{arith}
use borrow.Author.Tests.{eqb-true, eqb-false}
use lib.Dec.{eqb}
use lib.ListN.{replicate}
use Rattle.keyset.specs.Word.{bit, size}
use Rattle.keyset.proofs.Laws.{bit_two, bit_none, bit_high, size_more}
use Rattle.places.specs.Limits.{key_limit}
use Rattle.places.proofs.Repeated.{repeated}
use Rattle.search.specs.Sets.{Says, Word, Among}
use Rattle.search.specs.Walk.{In}

pub or_false : (a b : Bool) → a || b ≡ false → (a ≡ false) × (b ≡ false)
or_false true b e = absurd (let z : ◌≡◌ {A = ℕ} 0 1 = cc in omega arith)
or_false false b e = (refl, e)

pub or_true : (a b : Bool) → a || b ≡ true → (a ≡ true) ⊎ (b ≡ true)
or_true true b e = inl refl
or_true false b e = inr e

-- ---- what `has` tells

pub is_in : (w i : ℕ) (t : Bool) → t ≡ eqb (bit w i) 1 → t ≡ true → bit w i ≡ 1
is_in w i t e h = eqb-true (bit w i) 1 (sym e ∙ h)

pub not_in : (w i : ℕ) (t : Bool) → t ≡ eqb (bit w i) 1 → t ≡ false → bit w i ≡ 0
not_in w i t e h = ⊎_elim (λ z. z) (λ z. absurd (eqb-false (bit w i) 1 (sym e ∙ h) z)) (bit_two w i)

pub says_in : (w i : ℕ) (t : Bool) → t ≡ eqb (bit w i) 1 → Says t (bit w i ≡ 1)
says_in w i t e = record { yes = is_in w i t e; no = λ f p. eqb-false (bit w i) 1 (sym e ∙ f) p }

-- ---- the members of a word: keys; none; a single one

-- a member of a word is a key
pub place : (w : ℕ) → w < 2 ^ 64 → (r : ℕ) → bit w r ≡ 1 → r < key_limit
place w fits r p = go (dec_lt r key_limit)
  where
    go : Dec (r < key_limit) → r < key_limit
    go (yes h) = h
    go (no n) = absurd (let e = bit_high 64 w r fits (omega (arith, n)) in omega arith)

pub none_in : (n m x : ℕ) → In (replicate n 0) m x → ⊥
none_in n m x p = let e = bit_none x in let f = ap (λ (z : ℕ). bit z x) (repeated {A = ℕ} n m 0) in omega arith

pub one_member : (w x y : ℕ) → ((j : ℕ) → (j ≡ x → ⊥) → bit w j ≡ 0) → Dec (y ≡ x) → bit w y ≡ 1 → y ≡ x
one_member w x y h (yes e) p = e
one_member w x y h (no n) p = absurd (let q = h y n in omega arith)

-- ---- a loop that takes the lowest member of a word next, and gathers those that are P

pub record Gathered (P : ℕ → Type 0) (all left w : ℕ) : Type 0 where
  pub within : (k : ℕ) → bit left k ≡ 1 → bit all k ≡ 1
  pub only : (k : ℕ) → bit w k ≡ 1 → Among all P k
  pub has : (k : ℕ) → bit left k ≡ 0 → Among all P k → bit w k ≡ 1

pub gathered_none : (P : ℕ → Type 0) (all : ℕ) → Gathered P all all 0
gathered_none P all = record {
  within = λ k p. p;
  only = λ k p. absurd (let e = bit_none k in omega arith);
  has = λ k p a. absurd (let m = a.member in omega arith);
}

pub gathered_all : {P : ℕ → Type 0} {all left w : ℕ} → left ≡ 0 → Gathered P all left w → Word w (Among all P)
gathered_all z g = record { has = λ k a. g.has k (ap (λ (y : ℕ). bit y k) z ∙ bit_none k) a; only = g.only }

module _ {P : ℕ → Type 0} {all w : ℕ} (left left' q : ℕ) (g : Gathered P all left w) (first : bit left q ≡ 1)
    (out : bit left' q ≡ 0) (others : (j : ℕ) → (j ≡ q → ⊥) → bit left' j ≡ bit left j) where
  fewer : (k : ℕ) → Dec (k ≡ q) → bit left' k ≤ bit left k
  fewer k (yes e) = let a = ap (bit left') e in omega arith
  fewer k (no n) = omega (arith, others k n)

  -- what is left is one less
  pub gathered_less : q < key_limit → size key_limit left' < size key_limit left
  gathered_less h = size_more key_limit left' left q (λ j l. fewer j (ℕ_discrete j q)) h (omega arith)
