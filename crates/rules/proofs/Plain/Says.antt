-- `Says A b`: the Bool b says whether A holds. Each test of the plain evaluator is proved to say what document 01 asks, and tests are put
-- together as the statements are (`both`, `either`, `neither`). What is computed from a test is read off by `told`, `cond_yes`, `cond_no`.
use Prim.Native.Nat.{ℕ, ◌<◌}
use mathlib.Core.Bool.{Bool, true, false, not, cond, ◌&&◌, ◌||◌, false≢true}
use mathlib.Core.Logic.{◌⊎◌, inl, inr}
use mathlib.Core.Path.{◌≡◌, refl}
use borrow.Author.Tests.{eqb-true, eq-eqb, ltb-true, lt-ltb}
use lib.Dec.{eqb, ltb}

pub data Says (A : Type 0) : Bool → Type 0 where
  holds : A → Says A true
  fails : ¬ A → Says A false

-- What C says of either outcome it says of the test.
pub told : {A : Type 0} {b : Bool} (C : Bool → Type 0) → Says A b → (A → C true) → (¬ A → C false) → C b
told C (holds a) f g = f a
told C (fails n) f g = g n

module _ {A : Type 0} {b : Bool} (s : Says A b) where
  pub says_true : b ≡ true → A
  says_true = told (λ b. b ≡ true → A) s (λ a e. a) (λ n e. absurd (false≢true e))

  pub true_says : A → b ≡ true
  true_says a = told (λ b. b ≡ true) s (λ a. refl) (λ n. absurd (n a))

  pub dec : Dec A
  dec = told (λ b. Dec A) s yes no

  -- A choice by a test whose outcome is known.
  pub cond_yes : {C : Type 0} (x y : C) → A → cond b x y ≡ x
  cond_yes x y a = rw (true_says a)

  pub cond_no : {C : Type 0} (x y : C) → ¬ A → cond b x y ≡ y
  cond_no x y n = told (λ b. cond b x y ≡ y) s (λ a. absurd (n a)) (λ n. refl)

-- The same test of another statement.
pub alike : {A B : Type 0} {b : Bool} → (A → B) → (B → A) → Says A b → Says B b
alike {B = B} f g s = told (Says B) s (λ a. holds (f a)) (λ n. fails (λ y. n (g y)))

pub neither : {A : Type 0} {a : Bool} → Says A a → Says (¬ A) (not a)
neither {A} s = told (λ a. Says (¬ A) (not a)) s (λ x. fails (λ n. n x)) holds

module _ {A B : Type 0} {a b : Bool} where
  pub both : Says A a → Says B b → Says (A × B) (a && b)
  both s t = told (λ a. Says (A × B) (a && b)) s (λ x. alike (λ y. (x, y)) (λ p. p.1) t) (λ n. fails (λ p. n p.0))

  pub either : Says A a → Says B b → Says (A ⊎ B) (a || b)
  either s t = told (λ a. Says (A ⊎ B) (a || b)) s (λ x. holds (inl x)) (λ n. alike inr (elim [ inl x ↦ absurd (n x) | inr y ↦ y ]) t)

pub says : (b : Bool) → Says (b ≡ true) b
says true = holds refl
says false = fails false≢true

pub says_eq : (m n : ℕ) → Says (m ≡ n) (eqb m n)
says_eq m n = alike (eqb-true m n) (eq-eqb m n) (says (eqb m n))

pub says_lt : (m n : ℕ) → Says (m < n) (ltb m n)
says_lt m n = alike (ltb-true m n) (lt-ltb m n) (says (ltb m n))
