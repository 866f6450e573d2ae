-- The answers by a harmless reading: what is an answer by the reading is one of Rules (`effective_of`, `members_of`, `conveyed_of`), and,
-- where Rules has an answer for each level, the other way round (`harmless_each_way`). Both go from the caps of the one to caps of the
-- other (Caps) and compare what is derived with these (Levels).
use Prim.Native.Nat.{ℕ}
use mathlib.Core.List.{List}
use mathlib.Core.Logic.{◌↔◌}
use mathlib.Core.Option.{Option}
use Rattle.rules.specs.Rules.{Shape, Graph, Answer, Live, Caps, Effective, EffectiveIs, ConveyedIs, Member, MembersAre}
use Rattle.rules.specs.Readings.{Reading, LiveBy, CapsBy, EffectiveBy, EffectiveIsBy, ConveyedIsBy, MemberBy, MembersAreBy, EachWay}
use Rattle.rules.proofs.Derivations.Answers.{answer_carry, greatest_carry}
use Rattle.rules.proofs.Evaluation.Listing.{lists_carry}
use Rattle.rules.proofs.Evaluation.Settled.{effective_at}
use Rattle.rules.proofs.Readings.Settled.{standing_there, standing_back}
use Rattle.rules.proofs.Readings.Live.{Harmless, live_there, live_back}
use Rattle.rules.proofs.Readings.Levels.{caps_between, there, back}
use Rattle.rules.proofs.Readings.Caps.{conveys_there, conveys_back, caps_there, caps_back}

module _ {W : Shape} {G : Graph W} {R : Reading W} (h : Harmless G R) where
  pub live_same : {d : W.Del} → Live G d ↔ LiveBy G R d
  live_same = (live_there h _, live_back h _)

  -- With caps of both, each level, member and conveyed power is the same.
  module _ {κ κ' : W.Del → ℕ} (k : Caps G κ) (k' : CapsBy G R κ') where
    pub effective_same : {s x : W.Key} {o : Option ℕ} → Answer (Effective G κ s x) o ↔ Answer (EffectiveBy G R κ' s x) o
    effective_same = let b = caps_between h k k' in
        (answer_carry (there h b) (back h b), answer_carry (back h b) (there h b))

    pub member_same : {s : W.Key} (m : W.Key × ℕ) → Member G κ s m ↔ MemberBy G R κ' s m
    member_same m = let b = caps_between h k k' in (
      (λ a. record { other = a.other; effective = greatest_carry (there h b) (back h b) a.effective }),
      (λ a. record { other = a.other; effective = greatest_carry (back h b) (there h b) a.effective }),
    )

  -- What is an answer by the reading is one of Rules ..
  pub effective_of : {s x : W.Key} {o : Option ℕ} → EffectiveIsBy G R s x o → EffectiveIs G s x o
  effective_of a = let c = caps_back h a.caps in
      record { κ = c.0; caps = c.1; answer = (effective_same c.1 a.caps).1 a.answer }

  pub members_of : {Less : W.Key → W.Key → Type 0} {s : W.Key} {ms : List (W.Key × ℕ)} → MembersAreBy G R Less s ms → MembersAre G Less s ms
  members_of a = let c = caps_back h a.caps in
      let e = member_same c.1 a.caps in record { κ = c.0; caps = c.1; lists = lists_carry (λ m. (e m).1) (λ m. (e m).0) a.lists }

  pub conveyed_of : {d : W.Del} {o : Option ℕ} → ConveyedIsBy G R d o → ConveyedIs G d o
  conveyed_of a = let c = caps_back h a.caps in
      record { κ = c.0; caps = c.1; conveys = conveys_back h c.1 a.caps a.conveys }

  -- .. and the other way round, where the levels exist that the caps of the reading ask for.
  module _ (exists : (s x : W.Key) → (o : Option ℕ) × EffectiveIs G s x o) where
    caps_of : {κ : W.Del → ℕ} → Caps G κ → (κ' : W.Del → ℕ) × CapsBy G R κ'
    caps_of k = caps_there h k (λ s x. let e = exists s x in (e.0, effective_at k e.1))

    pub harmless_each_way : EachWay G R
    harmless_each_way = record {
      effective = (
        (λ a. let c = caps_of a.caps in record { κ = c.0; caps = c.1; answer = (effective_same a.caps c.1).0 a.answer }),
        effective_of,
      );
      members = (
        (λ a. let c = caps_of a.caps in let e = member_same a.caps c.1 in
            record { κ = c.0; caps = c.1; lists = lists_carry (λ m. (e m).0) (λ m. (e m).1) a.lists }),
        members_of,
      );
      live = live_same;
      conveyed = (
        (λ a. let c = caps_of a.caps in
            record { κ = c.0; caps = c.1; conveys = conveys_there h a.caps c.1 a.conveys }),
        conveyed_of,
      );
      standing = (standing_there live_same, standing_back live_same);
    }
