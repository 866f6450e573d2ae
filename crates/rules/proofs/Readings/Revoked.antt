-- Mistake 11 changes nothing: every revoked delegation may count as covered. One that some held revocation names, and that is yet uncovered
-- because nobody in N(d) stands over its subject, is then judged by the rule for covered ones and comes out as an uncovered one does:
-- live in the same stores, and passing on and conveying the same levels (Live, Levels, Caps).
-- `revoked_same` is this of every finite store; `revoked_numbered` moreover has an answer by the one for each answer by the other.
use Prim.Native.Nat.{ℕ}
use mathlib.Core.Bool.{true}
use mathlib.Core.HLevel.{×_discrete}
use mathlib.Core.List.{Memᴰ, List-discrete}
use mathlib.Core.Logic.{◌↔◌}
use mathlib.Core.Option.{Option, discrete}
use mathlib.Core.Path.{refl}
use native.Mathlib.Decide.{ℕ_discrete}
use Rattle.rules.specs.Rules.{Shape, Graph, Finite, Answer, Excluded, revoker, administered, Covered, Live, Caps, Effective, Conveys, Standing, StandingIs, EffectiveIs}
use Rattle.rules.specs.Readings.{Revoked, revoked_covered, LiveBy, CapsBy, EffectiveBy, ConveysBy, StandingIsBy, SameAnswers, EachWay}
use Rattle.rules.specs.Numbered.{Del, Holding, world}
use Rattle.rules.proofs.Evaluation.Settled.{effective_settled, conveyed_settled, members_settled}
use Rattle.rules.proofs.Stores.Finite.{held_decided, as_if_decided}
use Rattle.rules.proofs.Plain.Evaluate.{any, naming}
use Rattle.rules.proofs.Plain.Says.{Says, holds, alike, dec}
use Rattle.rules.proofs.Plain.Lists.{says_any}
use Rattle.rules.proofs.Plain.Coverage.{says_held, named, says_covered}
use Rattle.rules.proofs.Plain.Answers.{Sorted, effective_right}
use Rattle.rules.proofs.Readings.Settled.{standing_there, standing_back, dead_standing}
use Rattle.rules.proofs.Readings.Live.{Harmless, live_there, live_back}
use Rattle.rules.proofs.Readings.Caps.{conveys_there, conveys_back}
use Rattle.rules.proofs.Readings.Answers.{live_same, effective_same, effective_of, members_of, conveyed_of, harmless_each_way}

module _ {W : Shape} {G : Graph W} where
  -- N(d) has somebody only if somebody revoked d.
  somebody : {d : W.Del} {n : W.Key} → G.Held d → Excluded G d n → Revoked G d
  somebody h (revoker r) = record { held = h; key = _; revokes = r }
  somebody h (administered e k g p r s) = record { held = h; key = k; revokes = r }

  -- ## Where it is decided what is covered and what is revoked
  module _ (decide : (d : W.Del) → Dec (Covered G d)) (told : (d : W.Del) → Dec (Revoked G d)) where
    harmless : Harmless G (revoked_covered G)
    harmless = record {
      decide = decide;
      told = told;
      counts = λ c. somebody c.held c.excluded;
      held = λ r. r.held;
      counted = λ e. e.covered;
      there = λ e. record { covered = somebody e.covered.held e.covered.excluded; issuer = e.issuer; subject = e.subject; audience = e.audience };
      back = λ e c i s. record { covered = c; issuer = i; subject = s; audience = e.audience };
      odd = λ r u i s a. record { covered = r; issuer = i; subject = s; audience = a };
    }

    -- the same are live, and so have the same standing ..
    pub revoked_live : {d : W.Del} → Live G d ↔ LiveBy G (revoked_covered G) d
    revoked_live = live_same harmless

    pub revoked_standing : {d : W.Del} {o : Standing} → StandingIs G d o ↔ StandingIsBy G (revoked_covered G) d o
    revoked_standing = (standing_there revoked_live, standing_back revoked_live)

    -- .. every key has the same level over every subject, and every delegation conveys the same ..
    pub revoked_effective : {κ κ' : W.Del → ℕ} {s x : W.Key} {o : Option ℕ} → Caps G κ → CapsBy G (revoked_covered G) κ'
        → Answer (Effective G κ s x) o ↔ Answer (EffectiveBy G (revoked_covered G) κ' s x) o
    revoked_effective k k' = effective_same harmless k k'

    pub revoked_conveys : {κ κ' : W.Del → ℕ} {d : W.Del} {o : Option ℕ} → Caps G κ → CapsBy G (revoked_covered G) κ'
        → Conveys G κ d o ↔ ConveysBy G (revoked_covered G) κ' d o
    revoked_conveys k k' = (conveys_there harmless k k', conveys_back harmless k k')

    -- .. and, where Rules has all these levels, what is an answer of the one reading is one of the other.
    pub revoked_each_way : ((s x : W.Key) → (o : Option ℕ) × EffectiveIs G s x o) → EachWay G (revoked_covered G)
    revoked_each_way = harmless_each_way harmless

  -- ## Of any finite store: that answers are equal may be proved as if the above were decided
  pub revoked_same : Finite G → SameAnswers G (revoked_covered G)
  revoked_same fin = record {
    effective = λ {o = o} {p} a b. as_decided (discrete ℕ_discrete o p) (λ h. effective_settled a (effective_of h b));
    members = λ {ms = ms} {ns} o a b. as_decided (List-discrete (×_discrete fin.keys ℕ_discrete) ms ns) (λ h. members_settled o a (members_of h b));
    dead = dead;
    conveyed = λ {o = o} {p} a b. as_decided (discrete ℕ_discrete o p) (λ h. conveyed_settled a (conveyed_of h b));
    standing = dead_standing dead;
  }
    where
      as_decided : {X : Type 0} → Dec X → (Harmless G (revoked_covered G) → X) → X
      as_decided x f = as_if_decided fin (Covered G) (λ d c. c.held) x (λ t. as_if_decided fin (Revoked G) (λ d r. r.held) x (λ u. f (harmless t u)))

      cannot_fail : ¬ ¬ Harmless G (revoked_covered G)
      cannot_fail n = held_decided fin (Covered G) (λ d c. c.held) (λ t. held_decided fin (Revoked G) (λ d r. r.held) (λ u. n (harmless t u)))

      dead : {d : W.Del} → (¬ Live G d) ↔ (¬ LiveBy G (revoked_covered G) d)
      dead = ((λ n v. cannot_fail (λ h. n (live_back h _ v))), (λ n v. cannot_fail (λ h. n (live_there h _ v))))

-- ## Of every store as insertions leave it, its keys and digests read as numbers: there all of it is decided, and every level exists
module _ (S : Holding) (o : Sorted S) where
  if_held : {P : Del → Type 0} → ((d : Del) → P d → Memᴰ d S.dels) → ((d : Del) → Memᴰ d S.dels → Dec (P d)) → (d : Del) → Dec (P d)
  if_held held f d = elim (dec (says_held d S.dels)) [ yes m ↦ f d m | no n ↦ no (λ p. n (held d p)) ]

  says_revoked : (d : Del) → Memᴰ d S.dels → Says (Revoked (world S) d) (any (λ v. true) (naming S d))
  says_revoked d m = alike
      (λ s. record { held = m; key = s.one.issuer; revokes = record { revocation = s.one; of = s.is; issuer = refl } })
      (λ r. record { one = r.revokes.revocation; mem = (named S d).complete r.revokes.revocation r.revokes.of; is = r.revokes.of })
      (says_any (naming S d) (λ v k. holds ((named S d).sound v k)))

  pub revoked_numbered : EachWay (world S) (revoked_covered (world S))
  revoked_numbered = revoked_each_way
      (if_held (λ d c. c.held) (λ d m. dec (says_covered S d m))) (if_held (λ d r. r.held) (λ d m. dec (says_revoked d m)))
      (λ s x. (_, effective_right S o s x))
