-- What a byte of a row says: 0 is no level, and l + 1 is the level of rank l. `Byte P n`: the level that n says, if it says one, is P.
-- First how the bytes that a round computes keep to P, then what the byte of an answer tells.
use Prim.Native.Nat.{ℕ, zero, suc, pred, min, max, ◌≤◌, ◌<◌}
use mathlib.Core.Bool.{Bool, cond}
use mathlib.Core.List.{List, [], ◌∷◌, Memᴰ}
use mathlib.Core.Path.{◌≡◌, refl, subst}
use lib.Dec.{eqb, ltb}
use native.Mathlib.Numerals.{unary_clauses}
use native.Mathlib.Omega.{arith, max_cases}
use Rattle.rules.specs.Rules.{Shape, Stands, Answer, absent, level, Greatest, Capped}
use Rattle.rules.specs.Rows.{level_of}
use Rattle.rules.proofs.Derivations.Monotone.{stands_top}
use Rattle.rules.proofs.Plain.Evaluate.{best}
use Rattle.rules.proofs.Plain.Says.{Says, told, alike, says_eq, says_lt}

pub data Byte (P : ℕ → Type 0) : ℕ → Type 0 where
  blank : Byte P 0
  rank : {l : ℕ} → P l → Byte P (suc l)

module _ {P : ℕ → Type 0} where
  -- the level that it says, and a bound
  pub byte_at : {n l : ℕ} → Byte P n → n ≡ suc l → P l
  byte_at blank e = absurd (omega arith)
  byte_at {l = l} (rank {l = m} p) e = let q : m ≡ l = omega arith in subst P q p

  pub byte_small : {n : ℕ} (b : ℕ) → Byte P n → ((l : ℕ) → P l → l ≤ b) → n ≤ suc b
  byte_small b blank h = omega arith
  byte_small b (rank {l} p) h = omega (arith, h l p)

  -- ## The bytes that a round computes
  pub byte_max : (m n : ℕ) → Byte P m → Byte P n → Byte P (max m n)
  byte_max m n f g = max_cases m n (Byte P (max m n)) (λ h e. rw e g) (λ h e. rw e f)

  pub byte_best : {A : Type 0} (f : A → ℕ) (xs : List A) → ((x : A) → Memᴰ x xs → Byte P (f x)) → Byte P (best f xs)
  unfolding best
  byte_best f [] h = blank
  byte_best f (x ∷ xs) h = byte_max (f x) (best f xs) (h x (Memᴰ.head refl)) (byte_best f xs (λ y m. h y (Memᴰ.tail m)))

  pub byte_cond : {A : Type 0} {b : Bool} (n : ℕ) → Says A b → (A → Byte P n) → Byte P (cond b n 0)
  byte_cond n s f = told (λ b. Byte P (cond b n 0)) s f (λ z. blank)

  pub byte_min : {Q R : ℕ → Type 0} {m n : ℕ} → ((j k : ℕ) → Q j → R k → P (min j k)) → Byte Q m → Byte R n → Byte P (min m n)
  byte_min h blank g = simp unary_clauses blank
  byte_min h (rank q) blank = simp unary_clauses blank
  byte_min h (rank {l = j} q) (rank {l = k} r) = simp unary_clauses (rank (h j k q r))

  -- ## The byte of an answer
  -- It says the greatest level, and it is above every other.
  level_at : (n : ℕ) → Answer P (level_of n) → Byte (Greatest P) n
  unfolding level_of
  level_at zero a = blank
  level_at (suc l) (level g) = rank g

  pub level_pred : (n : ℕ) → Answer P (level_of n) → 0 < n → Greatest P (pred n)
  unfolding level_of
  level_pred zero a h = absurd (omega arith)
  level_pred (suc l) (level g) h = let q : l ≡ pred (suc l) = omega arith in subst (Greatest P) q g

  pub level_most : (n l : ℕ) → Answer P (level_of n) → P l → l < n
  unfolding level_of
  level_most zero l (absent f) p = absurd (f l p)
  level_most (suc m) l (level g) p = omega (arith, g.most l p)

  -- So a cap is no lower than what any level allows.
  pub capped_above : (p n l : ℕ) → Answer P (level_of n) → P l → min p l ≤ Capped p (level_of n)
  unfolding Capped level_of
  capped_above p zero l a s = absurd (omega (arith, level_most 0 l a s))
  capped_above p (suc m) l a s = omega (arith, level_most (suc m) l a s)

-- P at some level
pub record Some-level (P : ℕ → Type 0) : Type 0 where
  pub level : ℕ
  pub holds : P level

-- Whether there is a level ..
pub says_stands : {P : ℕ → Type 0} (n : ℕ) → Answer P (level_of n) → Says (Some-level P) (ltb 0 n)
says_stands {P} n a = alike (λ h. at h (level_at n a)) (λ s. omega (arith, level_most n s.level a s.holds)) (says_lt 0 n)
  where
    at : {n : ℕ} → 0 < n → Byte (Greatest P) n → Some-level P
    at h blank = absurd (omega arith)
    at h (rank {l} g) = record { level = l; holds = g.holds }

-- .. and whether it is exactly Admin, which N(d) asks for.
pub says_admin : {W : Shape} {E : W.Del → Type 0} {N : W.Key → Type 0} {c : W.Del → ℕ} {r x : W.Key} (n : ℕ)
    → Answer (Stands W E N c r x) (level_of n) → Says (Stands W E N c r x 3) (eqb n 4)
says_admin n a = alike (λ e. (byte_at (level_at n a) e).holds)
    (λ s. omega (arith, level_most n 3 a s, byte_small 3 (level_at n a) (λ l g. stands_top g.holds))) (says_eq n 4)
