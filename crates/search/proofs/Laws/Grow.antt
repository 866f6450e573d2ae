-- The laws of `Grown` (specs/Walk.antt): nothing added, a word added at a place, one addition after another. Assumes nothing.
use Prim.Native.Nat.{ℕ, ◌+◌, ◌<◌, ◌≤◌, max}
use mathlib.Core.Path.{◌≡◌, refl, sym, ap, ◌∙◌}
use mathlib.Core.List.{List}
use mathlib.Core.Logic.{◌⊎◌, inl, inr, ⊎_elim}
use native.Mathlib.Decide.{ℕ_discrete}
use native.Mathlib.Omega.{arith}
use lib.ListN.{get_or, set, length, length-set}
use lib.Seq.{get_or-set_same, get_or-set_other}
use Rattle.keyset.specs.Word.{bit}
use Rattle.keyset.proofs.Laws.{bit_le, bit_two}
use Rattle.search.specs.Levels.{word}
use Rattle.search.specs.Walk.{In, Grown, Joins}

pub grown_none : (b : List ℕ) (T : ℕ → ℕ → Type 0) → ((m x : ℕ) → T m x → ⊥) → Grown b b T
grown_none b T h = record { same = refl; keeps = λ m x p. p; gains = λ m x t. absurd (h m x t); news = λ m x p. inl p }

pub grown_iff : {b c : List ℕ} {S : ℕ → ℕ → Type 0} (T : ℕ → ℕ → Type 0) → Grown b c S → ((m x : ℕ) → S m x → T m x)
    → ((m x : ℕ) → T m x → S m x) → Grown b c T
grown_iff T g f h = record {
  same = g.same;
  keeps = g.keeps;
  gains = λ m x t. g.gains m x (h m x t);
  news = λ m x p. ⊎_elim (λ q. inl q) (λ s. inr (f m x s)) (g.news m x p);
}

pub grown_then : {a b c : List ℕ} {S T : ℕ → ℕ → Type 0} (U : ℕ → ℕ → Type 0) → Grown a b S → Grown b c T
    → ((m x : ℕ) → S m x → U m x) → ((m x : ℕ) → T m x → U m x) → ((m x : ℕ) → U m x → S m x ⊎ T m x) → Grown a c U
grown_then U g h s t u = record {
  same = h.same ∙ g.same;
  keeps = λ m x p. h.keeps m x (g.keeps m x p);
  gains = λ m x p. ⊎_elim (λ q. h.keeps m x (g.gains m x q)) (λ q. h.gains m x q) (u m x p);
  news = λ m x p. ⊎_elim (λ q. ⊎_elim (λ z. inl z) (λ z. inr (s m x z)) (g.news m x q)) (λ q. inr (t m x q)) (h.news m x p);
}

max_left : (a b : ℕ) → a ≡ 1 → b ≤ 1 → max a b ≡ 1
max_left a b e h = omega arith

max_right : (a b : ℕ) → a ≤ 1 → b ≡ 1 → max a b ≡ 1
max_right a b e h = omega arith

max_zero : (a b : ℕ) → max a b ≡ 1 → a ≡ 0 → b ≡ 1
max_zero a b e h = omega arith

-- the word at m gets the members of w
module _ (b : List ℕ) (m w w' : ℕ) (lt : m < length b) (is : (j : ℕ) → bit w' j ≡ max (bit (get_or b m 0) j) (bit w j)) where
  at_m : (x : ℕ) → bit (get_or (set b m w') m 0) x ≡ max (bit (get_or b m 0) x) (bit w x)
  at_m x = ap (λ (z : ℕ). bit z x) (get_or-set_same b m w' 0 lt) ∙ is x

  keep_one : (k x : ℕ) → Dec (k ≡ m) → In b k x → In (set b m w') k x
  keep_one k x (yes e) p =
      ap (λ (z : ℕ). bit (get_or (set b m w') z 0) x) e ∙ at_m x ∙ max_left _ _ (ap (λ (z : ℕ). bit (get_or b z 0) x) (sym e) ∙ p) (bit_le w x)
  keep_one k x (no n) p = ap (λ (z : ℕ). bit z x) (get_or-set_other b m k w' 0 n) ∙ p

  new_one : (k x : ℕ) → Dec (k ≡ m) → In (set b m w') k x → In b k x ⊎ ((k ≡ m) × (bit w x ≡ 1))
  new_one k x (yes e) p =
      let q = sym (at_m x) ∙ ap (λ (z : ℕ). bit (get_or (set b m w') z 0) x) (sym e) ∙ p in
      ⊎_elim (λ z. inr (e, max_zero _ _ q z)) (λ z. inl (ap (λ (y : ℕ). bit (get_or b y 0) x) e ∙ z)) (bit_two (get_or b m 0) x)
  new_one k x (no n) p = inl (ap (λ (z : ℕ). bit z x) (sym (get_or-set_other b m k w' 0 n)) ∙ p)

  pub grown_set : Grown b (set b m w') (λ k y. (k ≡ m) × (bit w y ≡ 1))
  grown_set = record {
    same = length-set b m w';
    keeps = λ k x p. keep_one k x (ℕ_discrete k m) p;
    gains = λ k x t. ap (λ (z : ℕ). bit (get_or (set b m w') z 0) x) t.0 ∙ at_m x ∙ max_right _ _ (bit_le (get_or b m 0) x) t.1;
    news = λ k x p. new_one k x (ℕ_discrete k m) p;
  }

-- one more of a member's words
pub joins_more : {b₀ b b' : List ℕ} (levels : List ℕ) (u l : ℕ) → Grown b₀ b (Joins levels u l) → Grown b b' (λ m y. (m ≡ l) × (bit (word levels u l) y ≡ 1))
    → Grown b₀ b' (Joins levels u (l + 1))
joins_more levels u l a h =
    grown_then (Joins levels u (l + 1)) a h
    (λ m y s. record { below = omega (arith, s.below); has = s.has })
    (λ m y t. record { below = omega (arith, t.0); has = ap (λ (z : ℕ). bit (word levels u z) y) t.0 ∙ t.1 })
    (λ m y s. split m y s (ℕ_discrete m l))
  where
    split : (m y : ℕ) (s : Joins levels u (l + 1) m y) → Dec (m ≡ l) → Joins levels u l m y ⊎ ((m ≡ l) × (bit (word levels u l) y ≡ 1))
    split m y s (yes e) = inr (e, ap (λ (z : ℕ). bit (word levels u z) y) (sym e) ∙ s.has)
    split m y s (no n) = inl (record { below = omega (arith, s.below, n); has = s.has })
