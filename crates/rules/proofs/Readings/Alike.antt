-- Readings that have document 01's covered ones and differ at most in the two tests of `Eligible` that ask whether issuer and subject are
-- outside N(d): by them every definition is that of Rules, each way.
-- Idea: a derivation with N(d) excluded has both its ends outside (`stands_out` of Derivations/Monotone), so whoever is reached passes the
-- two tests, asked or not.
use Prim.Native.Nat.{ℕ}
use mathlib.Core.Logic.{⊎_map, ◌↔◌}
use mathlib.Core.Option.{Option}
use native.Mathlib.Omega.{arith}
use Rattle.rules.specs.Rules.{Shape, Graph, Stands, Excluded, Covered, Uncovered, Eligible, LiveCovered, LiveUncovered, Live, PreFixed, Caps, Conveys, cap, plain, nothing, Member}
use Rattle.rules.specs.Readings.{Reading, plainly, UncoveredBy, LiveCoveredBy, LiveUncoveredBy, LiveBy, PreFixedBy, CapsBy, ConveysBy, cap_by, plain_by, nothing_by, MemberBy, EachWay}
use Rattle.rules.proofs.Derivations.Answers.{Under, just, answer_carry, greatest_carry}
use Rattle.rules.proofs.Derivations.Monotone.{widen, stands_out}
use Rattle.rules.proofs.Evaluation.Listing.{lists_carry}
use Rattle.rules.proofs.Evaluation.LiveSet.{live_in, live_induct}
use Rattle.rules.proofs.Readings.LiveSet.{in_by, induct_by}
use Rattle.rules.proofs.Readings.Settled.{standing_there, standing_back}

pub record Alike {W : Shape} (G : Graph W) (J : W.Del → Type 0) : Type 0 where
  pub there : {d : W.Del} → Eligible G d → J d
  pub back : {d : W.Del} → J d → ¬ Excluded G d (W.issuer d) → ¬ Excluded G d (W.subject d) → Eligible G d

module _ {W : Shape} (G : Graph W) (J : W.Del → Type 0) where
  abbrev by : Reading W
  by = record { Counts = Covered G; Joins = J }

module _ {W : Shape} {G : Graph W} {J : W.Del → Type 0} (a : Alike G J) where
  pub uncovered_alike : {d : W.Del} → Uncovered G d ↔ UncoveredBy G (by G J) d
  uncovered_alike = ((λ u. record { held = u.held; not = u.not }), (λ u. record { held = u.held; not = u.not }))

  pub live_covered_alike : {d : W.Del} → LiveCovered G d ↔ LiveCoveredBy G (by G J) d
  live_covered_alike = (
    live_induct (LiveCoveredBy G (by G J)) (λ d l e s.
        in_by (a.there e) (widen (λ e. ⊎_map (λ u. uncovered_alike.0 u) (λ v. v.1)) (just s)).holds),
    induct_by (LiveCovered G) (λ d l e s. live_in (a.back e (stands_out s).1 (stands_out s).0)
        (widen (λ e. ⊎_map (λ u. uncovered_alike.1 u) (λ v. v.1)) (just s)).holds),
  )

  pub live_uncovered_alike : {d : W.Del} → LiveUncovered G d ↔ LiveUncoveredBy G (by G J) d
  live_uncovered_alike = (
    (λ u. let i = widen (λ e. ⊎_map (λ u. uncovered_alike.0 u) (λ v. live_covered_alike.0 v)) (just u.stands) in
        record { uncovered = uncovered_alike.0 u.uncovered; level = _; stands = i.holds }),
    (λ u. let i = widen (λ e. ⊎_map (λ u. uncovered_alike.1 u) (λ v. live_covered_alike.1 v)) (just u.stands) in
        record { uncovered = uncovered_alike.1 u.uncovered; level = _; stands = i.holds }),
  )

  pub live_alike : {d : W.Del} → Live G d ↔ LiveBy G (by G J) d
  live_alike = (⊎_map (λ u. live_uncovered_alike.0 u) (λ v. live_covered_alike.0 v), ⊎_map (λ u. live_uncovered_alike.1 u) (λ v. live_covered_alike.1 v))

  -- So the same derivations, and the same levels.
  module _ {N : W.Key → Type 0} {κ : W.Del → ℕ} {r x : W.Key} where
    under_there : Under (Stands W (Live G) N κ r x) (Stands W (LiveBy G (by G J)) N κ r x)
    under_there l s = widen (λ d v. live_alike.0 v) (just s)

    under_back : Under (Stands W (LiveBy G (by G J)) N κ r x) (Stands W (Live G) N κ r x)
    under_back l s = widen (λ d v. live_alike.1 v) (just s)

  module _ {κ : W.Del → ℕ} where
    pub pre_fixed_alike : PreFixed G κ ↔ PreFixedBy G (by G J) κ
    pre_fixed_alike = (
      (λ p. record {
        rest = λ d u. p.rest d (live_uncovered_alike.1 u);
        above = λ d v l s. let i = under_back l s in omega (arith, p.above d (live_covered_alike.1 v) _ i.holds);
      }),
      (λ p. record {
        rest = λ d u. p.rest d (live_uncovered_alike.0 u);
        above = λ d v l s. let i = under_there l s in omega (arith, p.above d (live_covered_alike.0 v) _ i.holds);
      }),
    )

  module _ {κ : W.Del → ℕ} where
    pub caps_alike : Caps G κ ↔ CapsBy G (by G J) κ
    caps_alike = (
      (λ k. record {
        rest = λ d u. k.rest d (live_uncovered_alike.1 u);
        equation = λ d v. let q = k.equation d (live_covered_alike.1 v) in
            record { level = q.level; greatest = answer_carry under_there under_back q.greatest; equation = q.equation };
        least = λ κ' p d v. k.least κ' (pre_fixed_alike.1 p) d (live_covered_alike.1 v);
      }),
      (λ k. record {
        rest = λ d u. k.rest d (live_uncovered_alike.0 u);
        equation = λ d v. let q = k.equation d (live_covered_alike.0 v) in
            record { level = q.level; greatest = answer_carry under_back under_there q.greatest; equation = q.equation };
        least = λ κ' p d v. k.least κ' (pre_fixed_alike.0 p) d (live_covered_alike.0 v);
      }),
    )

    conveys_there : {d : W.Del} {o : Option ℕ} → Conveys G κ d o → ConveysBy G (by G J) κ d o
    conveys_there (cap v) = cap_by (live_covered_alike.0 v)
    conveys_there (plain l u g) = plain_by l (live_uncovered_alike.0 u) (greatest_carry under_there under_back g)
    conveys_there (nothing n) = nothing_by (λ v. n (live_alike.1 v))

    conveys_back : {d : W.Del} {o : Option ℕ} → ConveysBy G (by G J) κ d o → Conveys G κ d o
    conveys_back (cap_by v) = cap (live_covered_alike.1 v)
    conveys_back (plain_by l u g) = plain l (live_uncovered_alike.1 u) (greatest_carry under_back under_there g)
    conveys_back (nothing_by n) = nothing (λ v. n (live_alike.0 v))

    pub conveys_alike : {d : W.Del} {o : Option ℕ} → Conveys G κ d o ↔ ConveysBy G (by G J) κ d o
    conveys_alike = (conveys_there, conveys_back)

    pub member_alike : {s : W.Key} (m : W.Key × ℕ) → Member G κ s m ↔ MemberBy G (by G J) κ s m
    member_alike m = (
      (λ b. record { other = b.other; effective = greatest_carry under_there under_back b.effective }),
      (λ b. record { other = b.other; effective = greatest_carry under_back under_there b.effective }),
    )

  pub each_way_alike : EachWay G (by G J)
  each_way_alike = record {
    effective = (
      (λ b. record { κ = b.κ; caps = caps_alike.0 b.caps; answer = answer_carry under_there under_back b.answer }),
      (λ b. record { κ = b.κ; caps = caps_alike.1 b.caps; answer = answer_carry under_back under_there b.answer }),
    );
    members = (
      (λ b. record { κ = b.κ; caps = caps_alike.0 b.caps; lists = lists_carry (λ m. (member_alike m).0) (λ m. (member_alike m).1) b.lists }),
      (λ b. record { κ = b.κ; caps = caps_alike.1 b.caps; lists = lists_carry (λ m. (member_alike m).1) (λ m. (member_alike m).0) b.lists }),
    );
    live = live_alike;
    conveyed = (
      (λ b. record { κ = b.κ; caps = caps_alike.0 b.caps; conveys = conveys_alike.0 b.conveys }),
      (λ b. record { κ = b.κ; caps = caps_alike.1 b.caps; conveys = conveys_alike.1 b.conveys }),
    );
    standing = (standing_there live_alike, standing_back live_alike);
  }

-- By document 01's own reading the definitions of specs/Readings are those of Rules.
module _ {W : Shape} {G : Graph W} where
  plainly_alike : Alike G (Eligible G)
  plainly_alike = record { there = λ e. e; back = λ e i s. e }

  pub plainly_live_covered : {d : W.Del} → LiveCovered G d ↔ LiveCoveredBy G (plainly G) d
  plainly_live_covered = live_covered_alike plainly_alike

  pub plainly_live_uncovered : {d : W.Del} → LiveUncovered G d ↔ LiveUncoveredBy G (plainly G) d
  plainly_live_uncovered = live_uncovered_alike plainly_alike

  pub plainly_caps : {κ : W.Del → ℕ} → Caps G κ ↔ CapsBy G (plainly G) κ
  plainly_caps = caps_alike plainly_alike

  pub plainly_conveys : {κ : W.Del → ℕ} {d : W.Del} {o : Option ℕ} → Conveys G κ d o ↔ ConveysBy G (plainly G) κ d o
  plainly_conveys = conveys_alike plainly_alike

  pub plainly_each_way : EachWay G (plainly G)
  plainly_each_way = each_way_alike plainly_alike
