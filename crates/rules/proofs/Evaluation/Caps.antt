-- Caps: `Caps` has at most one solution (`caps_unique`); read literally, as the least solution of the equation, it is the same
-- (`caps_least_fixed`, `least_fixed_caps`); and a least pre-fixed point solves the equation (`least_prefix_caps`, after Knaster and
-- Tarski), which is what rounds that raise the levels from Relay arrive at (`below_raise`).
use Prim.Native.Nat.{ℕ, min, ◌≤◌}
use mathlib.Core.Logic.{inl, inr}
use mathlib.Core.Option.{Option}
use mathlib.Core.Path.{◌≡◌, refl}
use native.Mathlib.Omega.{arith}
use Rattle.rules.specs.Rules.{Shape, Graph, Answer, absent, level, Capped, LiveCovered, LiveUncovered, Live, Avoiding, CapEquation, PreFixed, Caps, LeastFixed}
use Rattle.rules.proofs.Derivations.Monotone.{mono}
use Rattle.rules.proofs.Evaluation.LiveSet.{plain_not_covered}

-- A level cut down to p, or Relay for none, is the least that no min(p, l) is above, for l that are P.
module _ {P : ℕ → Type 0} (p : ℕ) where
  pub capped_above : {o : Option ℕ} → Answer P o → (l : ℕ) → P l → min p l ≤ Capped p o
  unfolding Capped
  capped_above (absent a) l s = absurd (a l s)
  capped_above (level g) l s = omega (arith, g.most l s)

  pub capped_below : {o : Option ℕ} {k : ℕ} → ((l : ℕ) → P l → min p l ≤ k) → Answer P o → Capped p o ≤ k
  unfolding Capped
  capped_below f (absent a) = omega arith
  capped_below f (level g) = omega (arith, f _ g.holds)

-- no greater than any pre-fixed point
abbrev pub Below : {W : Shape} (G : Graph W) → (W.Del → ℕ) → Type 0
Below {W} G κ = (κ' : W.Del → ℕ) → PreFixed G κ' → (d : W.Del) → LiveCovered G d → κ d ≤ κ' d

module _ {W : Shape} {G : Graph W} where
  -- What solves the equation is a pre-fixed point.
  pub cap_above : {κ : W.Del → ℕ} {d : W.Del} → CapEquation G κ d → (l : ℕ) → Avoiding G κ d l → min (W.power d) l ≤ κ d
  cap_above q l s = rw q.equation (capped_above (W.power _) q.greatest l s)

  pub caps_pre : {κ : W.Del → ℕ} → Caps G κ → PreFixed G κ
  caps_pre k = record { rest = k.rest; above = λ d v. cap_above (k.equation d v) }

  -- Caps are unique.
  pub caps_unique : {κ κ' : W.Del → ℕ} {d : W.Del} → Caps G κ → Caps G κ' → LiveCovered G d → κ d ≡ κ' d
  caps_unique a b v = omega (arith, a.least _ (caps_pre b) _ v, b.least _ (caps_pre a) _ v)

  -- Both readings of "the least levels with cap(d) = .." have the same solution.
  pub caps_least_fixed : {κ : W.Del → ℕ} → Caps G κ → LeastFixed G κ
  caps_least_fixed k = record {
    rest = k.rest;
    equation = k.equation;
    least = λ κ' r e. k.least κ' (record { rest = r; above = λ d v. cap_above (e d v) });
  }

  pub least_fixed_caps : {κ κ' : W.Del → ℕ} → Caps G κ → LeastFixed G κ' → Caps G κ'
  least_fixed_caps k f = record {
    rest = f.rest;
    equation = f.equation;
    least = λ μ p d v. omega (arith, f.least _ k.rest k.equation d v, k.least μ p d v);
  }

  -- Levels that are below every pre-fixed point stay so when they are raised by the rule.
  pub below_raise : {κ κ' : W.Del → ℕ} {d : W.Del} {l : ℕ} → ((d : W.Del) → LiveUncovered G d → κ d ≡ W.power d) → Below G κ
      → PreFixed G κ' → LiveCovered G d → Avoiding G κ d l → min (W.power d) l ≤ κ' d
  below_raise {κ} {κ'} {d} r b p v s = let i = mono (λ e h. h) (λ n h. h) le s in omega (arith, p.above d v _ i.holds)
    where
      le : (e : W.Del) → Live G e → κ e ≤ κ' e
      le e (inl u) = omega (arith, r e u, p.rest e u)
      le e (inr w) = b κ' p e w

  -- Knaster and Tarski: the right-hand sides of the equation are a pre-fixed point too, so that the least one is no greater.
  module _ (κ : W.Del → ℕ) (pre : PreFixed G κ) (least : Below G κ) (decide : (d : W.Del) → Dec (LiveCovered G d))
      (exists : (d : W.Del) → LiveCovered G d → (o : Option ℕ) × Answer (Avoiding G κ d) o) where
    record Side (d : W.Del) : Type 0 where
      side : ℕ
      below : side ≤ κ d
      rest : LiveUncovered G d → side ≡ W.power d
      covered : LiveCovered G d → (o : Option ℕ) × Answer (Avoiding G κ d) o × (side ≡ Capped (W.power d) o)

    sides : (d : W.Del) → Side d
    sides d = elim (decide d) [
      | yes v ↦ let q = exists d v in record {
        side = Capped (W.power d) q.0;
        below = capped_below (W.power d) (pre.above d v) q.1;
        rest = λ u. absurd (plain_not_covered u v);
        covered = λ w. (q.0, q.1, refl);
      }
      | no n ↦ record { side = κ d; below = omega arith; rest = pre.rest d; covered = λ v. absurd (n v) }
    ]

    sides_pre : PreFixed G (λ d. (sides d).side)
    sides_pre = record {
      rest = λ d. (sides d).rest;
      above = λ d v l s.
          let i = mono (λ e h. h) (λ n h. h) (λ e h. (sides e).below) s in
          let q = (sides d).covered v in omega (arith, capped_above (W.power d) q.1 _ i.holds);
    }

    pub least_prefix_caps : Caps G κ
    least_prefix_caps = record {
      rest = pre.rest;
      least = least;
      equation = λ d v. let q = (sides d).covered v in
          record { level = q.0; greatest = q.1; equation = omega (arith, least _ sides_pre d v, (sides d).below) };
    }
