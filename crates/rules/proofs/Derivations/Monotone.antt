-- Monotony: standing grows with E and c and shrinks with N (`mono`); whether a key stands at all does not depend on c (`reach`).
-- Both are one induction, `upto`: where each c(d) is kept up to a bound b, so is each level.
-- And what every derivation shows: no level above Admin, neither end excluded, the key is the root or somebody's audience.
use Prim.Native.Nat.{ℕ, min, ◌≤◌}
use mathlib.Core.Logic.{◌⊎◌, inl, inr}
use mathlib.Core.Path.{◌≡◌, refl}
use native.Mathlib.Omega.{arith}
use Rattle.rules.specs.Rules.{Shape, Stands, d1, d2, d3, Admin}
use Rattle.rules.proofs.Derivations.Answers.{AtLeast, just, enough}

module _ {W : Shape} {E : W.Del → Type 0} {N : W.Key → Type 0} {c : W.Del → ℕ} where
  -- D2 and D3 at a level or more
  pub over_edge : {r : W.Key} {l m : ℕ} (d : W.Del) → E d → W.subject d ≡ r → ¬ N (W.audience d) → m ≤ c d
      → AtLeast (Stands W E N c r (W.issuer d)) l → AtLeast (Stands W E N c r (W.audience d)) (min l m)
  over_edge d e p n h a = record { level = min a.level (c d); more = omega arith; holds = d2 d e p n a.holds }

  pub over_through : {r u x : W.Key} {l m : ℕ} → ¬ (u ≡ r)
      → AtLeast (Stands W E N c r u) l → AtLeast (Stands W E N c u x) m → AtLeast (Stands W E N c r x) (min l m)
  over_through ne a b = record { level = min a.level b.level; more = omega arith; holds = d3 ne a.holds b.holds }

module _ {W : Shape} {E E' : W.Del → Type 0} {N N' : W.Key → Type 0} {c c' : W.Del → ℕ} where
  upto : {r x : W.Key} {l : ℕ} (b : ℕ) → ((d : W.Del) → E d → E' d) → ((n : W.Key) → N' n → N n) → ((d : W.Del) → E d → min b (c d) ≤ c' d)
      → Stands W E N c r x l → AtLeast (Stands W E' N' c' r x) (min b l)
  upto b f g h (d1 n) = enough (just (d1 (λ m. n (g _ m)))) (omega arith)
  upto b f g h (d2 d e p n s) = enough (over_edge d (f d e) p (λ m. n (g _ m)) (h d e) (upto b f g h s)) (omega arith)
  upto b f g h (d3 ne s t) = enough (over_through ne (upto b f g h s) (upto b f g h t)) (omega arith)

  pub mono : {r x : W.Key} {l : ℕ} → ((d : W.Del) → E d → E' d) → ((n : W.Key) → N' n → N n) → ((d : W.Del) → E d → c d ≤ c' d)
      → Stands W E N c r x l → AtLeast (Stands W E' N' c' r x) l
  mono {l = l} f g h s = enough (upto l f g (λ d e. omega (arith, h d e)) s) (omega arith)

  pub reach : {r x : W.Key} {l : ℕ} → ((d : W.Del) → E d → E' d) → ((n : W.Key) → N' n → N n)
      → Stands W E N c r x l → AtLeast (Stands W E' N' c' r x) 0
  reach f g s = enough (upto 0 f g (λ d e. omega arith) s) (omega arith)

-- More delegations, all else as it was.
pub widen : {W : Shape} {E E' : W.Del → Type 0} {N : W.Key → Type 0} {c : W.Del → ℕ} {r x : W.Key} {l : ℕ} → ((d : W.Del) → E d → E' d)
    → AtLeast (Stands W E N c r x) l → AtLeast (Stands W E' N c r x) l
widen f a = enough (mono f (λ n m. m) (λ d e. omega arith) a.holds) a.more

-- What every derivation shows. No level is above Admin.
pub stands_top : {W : Shape} {E : W.Del → Type 0} {N : W.Key → Type 0} {c : W.Del → ℕ} {r x : W.Key} {l : ℕ}
    → Stands W E N c r x l → l ≤ Admin
stands_top (d1 n) = omega arith
stands_top (d2 d e p n s) = omega (arith, stands_top s)
stands_top (d3 ne s t) = omega (arith, stands_top s)

module _ {W : Shape} {E : W.Del → Type 0} {N : W.Key → Type 0} {c : W.Del → ℕ} where
  -- So who stands at Admin or more stands at Admin.
  pub at_admin : {r x : W.Key} → AtLeast (Stands W E N c r x) Admin → Stands W E N c r x Admin
  at_admin a = rw (let e : a.level ≡ Admin = omega (arith, stands_top a.holds) in e) at a.holds

  -- Neither the root nor a key that stands is excluded.
  pub stands_out : {r x : W.Key} {l : ℕ} → Stands W E N c r x l → ¬ N r × ¬ N x
  stands_out (d1 n) = (n, n)
  stands_out (d2 d e p n s) = ((stands_out s).0, n)
  stands_out (d3 ne s t) = ((stands_out s).0, (stands_out t).1)

  -- A key that stands is the root, or the audience of a usable delegation.
  pub stands_named : {r x : W.Key} {l : ℕ} → Stands W E N c r x l → (x ≡ r) ⊎ ((d : W.Del) × E d × (W.audience d ≡ x))
  stands_named (d1 n) = inl refl
  stands_named (d2 d e p n s) = inr (d, e, refl)
  stands_named (d3 ne s t) = elim (stands_named t) [ inl p ↦ rw p (stands_named s) | inr k ↦ inr k ]

  -- Over a root that no usable delegation has for its subject only the root stands.
  pub stands_alone : {r x : W.Key} {l : ℕ} → ((d : W.Del) → E d → ¬ (W.subject d ≡ r)) → Stands W E N c r x l → x ≡ r
  stands_alone f (d1 n) = refl
  stands_alone f (d2 d e p n s) = absurd (f d e p)
  stands_alone f (d3 ne s t) = absurd (ne (stands_alone f s))
