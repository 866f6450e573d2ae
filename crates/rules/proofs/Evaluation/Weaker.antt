-- Two graphs of one shape, G and H, where H is the weaker: what is live in H is live in G, at no lower a level there.
-- Then H gives no more effective and no more conveyed power. Used with G for H, to show that answers coincide (Settled), and for a store
-- with more revocations (Stores/Revoking).
use Prim.Native.Nat.{ℕ, min, ◌≤◌}
use mathlib.Core.Logic.{inl, inr}
use mathlib.Core.Option.{Option}
use native.Mathlib.Omega.{arith}
use Rattle.rules.specs.Rules.{Shape, Graph, LiveUncovered, Live, Caps, Effective, Conveys, cap, plain, nothing}
use Rattle.rules.specs.Revoking.{NoMore, none_of, at_most}
use Rattle.rules.proofs.Derivations.Answers.{Under}
use Rattle.rules.proofs.Derivations.Monotone.{mono}
use Rattle.rules.proofs.Evaluation.LiveSet.{plain_not_covered}
use Rattle.rules.proofs.Evaluation.Caps.{capped_below}

pub record Weaker {W : Shape} (G H : Graph W) (κ κ' : W.Del → ℕ) : Type 0 where
  pub caps : Caps H κ'
  pub live : (d : W.Del) → Live H d → Live G d
  pub plain : {d : W.Del} → LiveUncovered H d → LiveUncovered G d
  pub level : (d : W.Del) → Live H d → κ' d ≤ κ d

module _ {W : Shape} {G H : Graph W} {κ κ' : W.Del → ℕ} (w : Weaker G H κ κ') where
  pub effective_under : {r x : W.Key} → Under (Effective H κ' r x) (Effective G κ r x)
  effective_under l = mono w.live (λ n z. z) w.level

  pub conveys_no_more : {d : W.Del} {o p : Option ℕ} → Conveys H κ' d o → Conveys G κ d p → NoMore o p
  conveys_no_more (nothing n) q = none_of
  conveys_no_more (cap v) (nothing n) = absurd (n (w.live _ (inr v)))
  conveys_no_more (plain l u g) (nothing n) = absurd (n (w.live _ (inl u)))
  conveys_no_more (plain l u g) (cap v) = absurd (plain_not_covered (w.plain u) v)
  conveys_no_more (cap v) (cap v') = at_most (w.level _ (inr v))
  conveys_no_more {d} (plain l u g) (plain m u' h) = let i = effective_under l g.holds in
      at_most {l = min (W.power d) l} {m = min (W.power d) m} (omega (arith, h.most _ i.holds))
  -- a cap rests on a derivation under exclusions, which is one without
  conveys_no_more {d} (cap v) (plain m u h) = let q = w.caps.equation d v in
      let b = capped_below (W.power d) {k = min (W.power d) m} (λ l s.
      let i = mono w.live (λ n z. absurd z) w.level s in omega (arith, h.most _ i.holds)) q.greatest in
      at_most {l = κ' d} {m = min (W.power d) m} (omega arith)
