-- Bools, and words that share a member. Assumes nothing.
use Prim.Native.Nat.{ℕ, ◌<◌}
use mathlib.Core.Path.{◌≡◌, refl, sym, ap, ◌∙◌, subst}
use mathlib.Core.Bool.{Bool, true, false, not, ◌&&◌}
use mathlib.Core.Logic.{◌⊎◌, inl, inr, ⊎_elim}
use native.Mathlib.Omega.{arith}
use borrow.Author.Tests.{eqb-false, ne_eqb, not-true}
use lib.Dec.{eqb}
use Rattle.keyset.specs.Word.{bit}
use Rattle.keyset.proofs.Laws.{bit_none}
use Rattle.search.specs.Sets.{Says}

pub clash : {t : Bool} → t ≡ true → t ≡ false → ⊥
clash {t} p q = let z : ◌≡◌ {A = ℕ} 0 1 = cc in omega arith

pub two : (t : Bool) → (t ≡ true) ⊎ (t ≡ false)
two true = inl refl
two false = inr refl

pub both : (a b : Bool) → a && b ≡ true → (a ≡ true) × (b ≡ true)
both true b e = (refl, e)
both false b e = absurd (clash e refl)

pub joint : (a b : Bool) → a ≡ true → b ≡ true → a && b ≡ true
joint a b p q = rw (p, q) refl

pub said : {t : Bool} {P : Type 0} → Says t P → P → t ≡ true
said {t} s p = ⊎_elim (λ y. y) (λ y. absurd (s.no y p)) (two t)

-- ---- numbers

pub non_zero : (n : ℕ) → not (eqb n 0) ≡ true → 0 < n
non_zero n e = let h = eqb-false n 0 (not-true (eqb n 0) e) in omega (arith, h)

pub pos_yes : (n : ℕ) → 0 < n → not (eqb n 0) ≡ true
pos_yes n h = ap not (ne_eqb n 0 (λ e. omega arith))

pub pos_no : (n : ℕ) → 0 < n → eqb n 0 ≡ false
pos_no n h = ne_eqb n 0 (λ e. omega arith)

-- nobody is in 0
pub no_bit : (n : ℕ) → bit 0 n ≡ 1 → ⊥
no_bit n b = let z = bit_none n in omega arith

pub bit_zero : (w n : ℕ) → w ≡ 0 → bit w n ≡ 1 → ⊥
bit_zero w n e b = let z = ap (λ (y : ℕ). bit y n) e ∙ bit_none n in omega arith

-- ---- equal places

pub at_two : (F : ℕ → ℕ → Type 0) {a b x y : ℕ} → a ≡ b → x ≡ y → F a x → F b y
at_two F {a} {b} {x} {y} p q f = subst (λ (z : ℕ). F b z) q (subst (λ (z : ℕ). F z x) p f)

pub says_as : {t : Bool} {P Q : Type 0} → (P → Q) → (Q → P) → Says t P → Says t Q
says_as f g s = record { yes = λ e. f (s.yes e); no = λ e q. s.no e (g q) }

pub says_two : (F : ℕ → ℕ → Type 0) {t : Bool} {a b x y : ℕ} → a ≡ b → x ≡ y → Says t (F a x) → Says t (F b y)
says_two F p q = says_as (at_two F p q) (at_two F (sym p) (sym q))
