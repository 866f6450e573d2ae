-- What a search has to show of its rows, so that they are the answers of document 01 (`table_answers`): `Closed`, no rule raises a
-- byte any more, and `Derived`, each byte is derived. And the answers for keys that no table has.
use Prim.Native.Nat.{ℕ, zero, suc, min, ◌≤◌}
use mathlib.Core.Logic.{inl, inr}
use mathlib.Core.Option.{none, some}
use mathlib.Core.Path.{◌≡◌, refl}
use native.Mathlib.Omega.{arith}
use Rattle.rules.specs.Rules.{Admin, Shape, Stands, d1, d2, d3, Answer, absent, level}
use Rattle.rules.specs.Rows.{level_of}
use Rattle.rules.proofs.Derivations.Monotone.{stands_top, stands_alone, stands_named}

-- A byte answers P where what it says is P, and nothing above it is.
byte_answers : {P : ℕ → Type 0} (n : ℕ) → ((l : ℕ) → n ≡ suc l → P l) → ((l : ℕ) → P l → suc l ≤ n) → Answer P (level_of n)
unfolding level_of
byte_answers zero is most = absent (λ l h. omega (arith, most l h))
byte_answers (suc l) is most = level (record { holds = is l refl; most = λ m h. omega (arith, most m h) })

-- the rules of W with E, N and c, and a table T of rows
module _ (W : Shape) (E : W.Del → Type 0) (N : W.Key → Type 0) (c : W.Del → ℕ) (T : W.Key → W.Key → ℕ) where
  pub record Closed : Type 0 where
    pub start : {r : W.Key} → ¬ N r → suc Admin ≤ T r r
    pub step : {d : W.Del} → E d → ¬ N (W.audience d) → min (T (W.subject d) (W.issuer d)) (suc (c d)) ≤ T (W.subject d) (W.audience d)
    pub through : {r u x : W.Key} → ¬ (u ≡ r) → min (T r u) (T u x) ≤ T r x

  pub record Derived : Type 0 where
    pub sound : {r x : W.Key} {l : ℕ} → T r x ≡ suc l → Stands W E N c r x l

module _ {W : Shape} {E : W.Del → Type 0} {N : W.Key → Type 0} {c : W.Del → ℕ} where
  module _ {T : W.Key → W.Key → ℕ} (t : Closed W E N c T) where
    -- by induction on the derivation, each byte is past its level
    pub closed_above : {r x : W.Key} {l : ℕ} → Stands W E N c r x l → suc l ≤ T r x
    closed_above (d1 n) = t.start n
    closed_above (d2 d e p n s) = rw (← p) (omega (arith, t.step {d = d} e n, rw (← p) at (closed_above s)))
    closed_above {x = x} (d3 ne s u) = omega (arith, closed_above s, closed_above u, t.through {x = x} ne)

    pub table_answers : Derived W E N c T → (r x : W.Key) → Answer (Stands W E N c r x) (level_of (T r x))
    table_answers s r x = byte_answers (T r x) (λ l. s.sound) (λ l. closed_above)

  -- Keys that are not held: a key over itself, and another key where nothing is delegated over r or to x.
  pub self_answer : {r : W.Key} → ¬ N r → Answer (Stands W E N c r r) (some Admin)
  self_answer n = level (record { holds = d1 n; most = λ m. stands_top })

  pub no_subject : {r x : W.Key} → ¬ (x ≡ r) → ((d : W.Del) → E d → ¬ (W.subject d ≡ r)) → Answer (Stands W E N c r x) none
  no_subject n f = absent (λ l h. n (stands_alone f h))

  pub no_audience : {r x : W.Key} → ¬ (x ≡ r) → ((d : W.Del) → E d → ¬ (W.audience d ≡ x)) → Answer (Stands W E N c r x) none
  no_audience n f = absent (λ l h. elim (stands_named h) [ inl p ↦ n p | inr k ↦ f k.0 k.1 k.2 ])
