-- Two answers that satisfy one statement coincide: effective power, conveyed power, standing and members.
-- (Positive power: `answer_unique` of Derivations/Answers. Lists: `lists_same` of Listing.)
-- Idea: caps coincide on live delegations (`caps_live`), so that a graph is weaker than itself, whichever caps it is asked by (`itself`).
use Prim.Native.Nat.{ℕ}
use mathlib.Core.List.{List}
use mathlib.Core.Logic.{inl, inr}
use mathlib.Core.Option.{Option}
use mathlib.Core.Path.{◌≡◌, refl}
use native.Mathlib.Omega.{arith}
use Rattle.rules.specs.Rules.{Answer, Shape, Graph, Live, Caps, Effective, StandingIs, is_live, is_revoked, is_unsupported, Standing, EffectiveIs, ConveyedIs, Member, MembersAre}
use Rattle.rules.proofs.Derivations.Answers.{answer_unique, answer_carry, greatest_carry, no_more_both}
use Rattle.rules.proofs.Evaluation.Listing.{lists_same}
use Rattle.rules.proofs.Evaluation.Caps.{caps_unique}
use Rattle.rules.proofs.Evaluation.Weaker.{Weaker, effective_under, conveys_no_more}

module _ {W : Shape} {G : Graph W} where
  module _ {κ κ' : W.Del → ℕ} (k : Caps G κ) (k' : Caps G κ') where
    pub caps_live : {d : W.Del} → Live G d → κ d ≡ κ' d
    caps_live (inr v) = caps_unique k k' v
    caps_live {d} (inl u) = omega (arith, k.rest d u, k'.rest d u)

    itself : Weaker G G κ κ'
    itself = record { caps = k'; live = λ d v. v; plain = λ u. u; level = λ d v. omega (arith, caps_live v) }

  -- an effective answer, by whichever caps it is asked
  pub effective_at : {κ : W.Del → ℕ} {s x : W.Key} {o : Option ℕ} → Caps G κ → EffectiveIs G s x o → Answer (Effective G κ s x) o
  effective_at k a = answer_carry (effective_under (itself k a.caps)) (effective_under (itself a.caps k)) a.answer

  pub effective_settled : {s x : W.Key} {o p : Option ℕ} → EffectiveIs G s x o → EffectiveIs G s x p → o ≡ p
  effective_settled a b = answer_unique (effective_at b.caps a) b.answer

  pub conveyed_settled : {d : W.Del} {o p : Option ℕ} → ConveyedIs G d o → ConveyedIs G d p → o ≡ p
  conveyed_settled a b = no_more_both
      (conveys_no_more (itself b.caps a.caps) a.conveys b.conveys) (conveys_no_more (itself a.caps b.caps) b.conveys a.conveys)

  pub standing_settled : {d : W.Del} {o p : Standing} → StandingIs G d o → StandingIs G d p → o ≡ p
  standing_settled (is_live v) (is_live w) = refl
  standing_settled (is_live v) (is_revoked k h n r) = absurd (n v)
  standing_settled (is_live v) (is_unsupported h n r) = absurd (n v)
  standing_settled (is_revoked k h n r) (is_live v) = absurd (n v)
  standing_settled (is_revoked k h n r) (is_revoked j g m q) = refl
  standing_settled (is_revoked k h n r) (is_unsupported g m q) = absurd (q k r)
  standing_settled (is_unsupported h n r) (is_live v) = absurd (n v)
  standing_settled (is_unsupported h n r) (is_revoked k g m q) = absurd (r k q)
  standing_settled (is_unsupported h n r) (is_unsupported g m q) = refl

  member_carry : {κ κ' : W.Del → ℕ} {s : W.Key} → Caps G κ → Caps G κ' → (m : W.Key × ℕ) → Member G κ s m → Member G κ' s m
  member_carry k k' m h =
      record { other = h.other; effective = greatest_carry (effective_under (itself k' k)) (effective_under (itself k k')) h.effective }

  pub members_settled : {Less : W.Key → W.Key → Type 0} {s : W.Key} {ms ns : List (W.Key × ℕ)} → ((x y : W.Key) → Less x y → ¬ Less y x)
      → MembersAre G Less s ms → MembersAre G Less s ns → ms ≡ ns
  members_settled o a b =
      lists_same (λ m n. o m.0 n.0) (member_carry a.caps b.caps) (member_carry b.caps a.caps) a.lists b.lists
