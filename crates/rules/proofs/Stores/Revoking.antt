-- Revocations only take away (`only_take_away`; specs/Revoking says what that is).
-- Idea: more revocations exclude more and cover more, so what is usable, live or capped afterwards was so before, at no lower a level:
-- the store with more of them is the weaker (Evaluation/Weaker).
use Prim.Native.Nat.{ℕ, ◌≤◌}
use mathlib.Core.Logic.Dec
use mathlib.Core.Logic.{inl, inr, ⊎_elim, ⊎_map}
use mathlib.Core.Option.{Option, none, some}
use native.Mathlib.Decide.{dec_le}
use native.Mathlib.Omega.{arith}
use Rattle.rules.specs.Rules.{Shape, Graph, Stands, Nobody, Positive, Excluded, revoker, administered, Covered, Uncovered, Eligible, LiveCovered, Usable, LiveUncovered, Live, PreFixed, Caps, EffectiveIs, Finite}
use Rattle.rules.specs.Revoking.{Adds, NoMore, none_of, at_most, OnlyTakesAway}
use Rattle.rules.proofs.Derivations.Answers.{Under, answer_carry, no_more}
use Rattle.rules.proofs.Derivations.Monotone.{mono, reach, at_admin}
use Rattle.rules.proofs.Evaluation.LiveSet.{live_in, live_induct, live_reached}
use Rattle.rules.proofs.Evaluation.Caps.{cap_above}
use Rattle.rules.proofs.Evaluation.Weaker.{Weaker, effective_under, conveys_no_more}
use Rattle.rules.proofs.Stores.Finite.{held_decided, as_if_decided}

no_more_decided : (o p : Option ℕ) → Dec (NoMore o p)
no_more_decided none p = yes none_of
no_more_decided (some l) none = no (λ h. elim h [ ])
no_more_decided (some l) (some m) = Dec.of_iff (at_most, λ h. elim h [ at_most k ↦ k ]) (dec_le l m)

module _ {W : Shape} {G H : Graph W} (m : Adds G H) where
  -- Positive power stays as it is.
  positive_there : {r x : W.Key} → Under (Positive G r x) (Positive H r x)
  positive_there l = mono (λ d. m.there) (λ n z. z) (λ d h. omega arith)

  positive_back : {r x : W.Key} → Under (Positive H r x) (Positive G r x)
  positive_back l = mono (λ d. m.back) (λ n z. z) (λ d h. omega arith)

  -- More is excluded and more is covered.
  more_excluded : {d : W.Del} (n : W.Key) → Excluded G d n → Excluded H d n
  more_excluded n (revoker r) = revoker (m.more r)
  more_excluded n (administered e k h p r s) = administered e k (m.there h) p (m.more r) (at_admin (positive_there _ s))

  fewer_uncovered : {d : W.Del} → Uncovered H d → Uncovered G d
  fewer_uncovered u = record {
    held = m.back u.held;
    not = λ c. let i = positive_there _ c.stands in
        u.not (record { held = m.there c.held; key = c.key; excluded = more_excluded _ c.excluded; level = i.level; stands = i.holds });
  }

  fewer_eligible : {d : W.Del} → Covered G d → Eligible H d → Eligible G d
  fewer_eligible c e = record {
    covered = c;
    issuer = λ x. e.issuer (more_excluded _ x);
    subject = λ x. e.subject (more_excluded _ x);
    audience = λ r. e.audience (m.more r);
  }

  module _ (decide : (d : W.Del) → Dec (Covered G d)) where
    -- What is live and covered afterwards was usable before, by induction on the least set: either uncovered, or live as well.
    was_usable : {d : W.Del} → LiveCovered H d → Usable G d
    was_usable = live_induct (Usable G) (λ d l e s. elim (decide d) [
      | yes c ↦ inr (live_in (fewer_eligible c e)
          (mono (λ d. ⊎_elim (λ u. inl (fewer_uncovered u)) (λ v. v.1)) more_excluded (λ d h. omega arith) s).holds)
      | no n ↦ inl (record { held = m.back e.covered.held; not = n })
    ])

    -- So whose issuer stands afterwards, its issuer stood before.
    was_plain : {d : W.Del} {N : W.Key → Type 0} {c : W.Del → ℕ} {l : ℕ} → Uncovered G d
        → Stands W (Usable H) N c (W.subject d) (W.issuer d) l → LiveUncovered G d
    was_plain u s =
        let i = reach {N' = Nobody} {c' = W.power} (λ d. ⊎_elim (λ u. inl (fewer_uncovered u)) was_usable) (λ n z. absurd z) s in
        record { uncovered = u; level = i.level; stands = i.holds }

    plain_drops : {d : W.Del} → LiveUncovered H d → LiveUncovered G d
    plain_drops u = was_plain (fewer_uncovered u.uncovered) u.stands

    live_drops : (d : W.Del) → Live H d → Live G d
    live_drops d (inl u) = inl (plain_drops u)
    live_drops d (inr v) = ⊎_map (λ u. was_plain u (live_reached v).holds) (λ w. w) (was_usable v)

    -- The caps before are a pre-fixed point afterwards, so that no cap is raised.
    weaker : {κ κ' : W.Del → ℕ} → Caps G κ → Caps H κ' → Weaker G H κ κ'
    weaker {κ} {κ'} k k' = record { caps = k'; live = live_drops; plain = plain_drops; level = level }
      where
        pre : PreFixed H κ
        pre = record {
          rest = λ d u. k.rest d (plain_drops u);
          above = λ d v l s. elim (live_drops d (inr v)) [
            | inl u ↦ omega (arith, k.rest d u)
            | inr w ↦ let i = mono {c' = κ} live_drops more_excluded (λ d h. omega arith) s in omega (arith, cap_above (k.equation d w) _ i.holds)
          ];
        }

        level : (d : W.Del) → Live H d → κ' d ≤ κ d
        level d (inl u) = omega (arith, k.rest d (plain_drops u), k'.rest d u)
        level d (inr v) = k'.least κ pre d v

-- A store is finite, and there nothing has to be decided.
pub only_take_away : {W : Shape} {G H : Graph W} → Adds G H → Finite G → OnlyTakesAway G H
only_take_away {W} {G} {H} m fin = record {
  positive = (answer_carry (positive_there m) (positive_back m), answer_carry (positive_back m) (positive_there m));
  dead = λ n v. held_decided fin (Covered G) (λ d c. c.held) (λ t. n (live_drops m t _ v));
  effective = effective;
  conveyed = λ a b. as_decided (λ t. conveys_no_more (weaker m t b.caps a.caps) a.conveys b.conveys);
  member = λ a b. elim (effective a b) [ ];
}
  where
    as_decided : {o p : Option ℕ} → (((d : W.Del) → Dec (Covered G d)) → NoMore o p) → NoMore o p
    as_decided {o} {p} = as_if_decided fin (Covered G) (λ d c. c.held) (no_more_decided o p)

    effective : {s x : W.Key} {o p : Option ℕ} → EffectiveIs H s x o → EffectiveIs G s x p → NoMore o p
    effective a b = as_decided (λ t. no_more (effective_under (weaker m t b.caps a.caps)) a.answer b.answer)
