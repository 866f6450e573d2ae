-- Of any reading: its standings are settled by which delegations are live by it (`standing_there`, `standing_back`, `dead_standing`); and
-- where what is an answer of Rules is one by the reading and the other way round, all answers are equal (`each_way_same`).
use mathlib.Core.Logic.{◌↔◌}
use mathlib.Core.Path.{◌≡◌, refl}
use Rattle.rules.specs.Rules.{Shape, Graph, Live, StandingIs, is_live, is_revoked, is_unsupported, Standing}
use Rattle.rules.specs.Readings.{Reading, LiveBy, StandingIsBy, live_by, revoked_by, unsupported_by, SameAnswers, EachWay}
use Rattle.rules.proofs.Evaluation.Settled.{effective_settled, conveyed_settled, standing_settled, members_settled}

module _ {W : Shape} {G : Graph W} {R : Reading W} {d : W.Del} where
  module _ (live : Live G d ↔ LiveBy G R d) where
    pub standing_there : {o : Standing} → StandingIs G d o → StandingIsBy G R d o
    standing_there (is_live v) = live_by (live.0 v)
    standing_there (is_revoked k h n r) = revoked_by k h (λ v. n (live.1 v)) r
    standing_there (is_unsupported h n r) = unsupported_by h (λ v. n (live.1 v)) r

    pub standing_back : {o : Standing} → StandingIsBy G R d o → StandingIs G d o
    standing_back (live_by v) = is_live (live.1 v)
    standing_back (revoked_by k h n r) = is_revoked k h (λ v. n (live.0 v)) r
    standing_back (unsupported_by h n r) = is_unsupported h (λ v. n (live.0 v)) r

  -- The dead ones are enough to compare two answers.
  pub dead_standing : {o p : Standing} → (¬ Live G d) ↔ (¬ LiveBy G R d) → StandingIs G d o → StandingIsBy G R d p → o ≡ p
  dead_standing e (is_live v) (live_by w) = refl
  dead_standing e (is_live v) (revoked_by k h n r) = absurd (e.1 n v)
  dead_standing e (is_live v) (unsupported_by h n r) = absurd (e.1 n v)
  dead_standing e (is_revoked k h n r) (live_by w) = absurd (e.0 n w)
  dead_standing e (is_revoked k h n r) (revoked_by j g m q) = refl
  dead_standing e (is_revoked k h n r) (unsupported_by g m q) = absurd (q k r)
  dead_standing e (is_unsupported h n r) (live_by w) = absurd (e.0 n w)
  dead_standing e (is_unsupported h n r) (revoked_by k g m q) = absurd (r k q)
  dead_standing e (is_unsupported h n r) (unsupported_by g m q) = refl

pub each_way_same : {W : Shape} {G : Graph W} {R : Reading W} → EachWay G R → SameAnswers G R
each_way_same e = record {
  effective = λ a b. effective_settled a (e.effective.1 b);
  members = λ o a b. members_settled o a (e.members.1 b);
  dead = ((λ n v. n (e.live.1 v)), (λ n v. n (e.live.0 v)));
  conveyed = λ a b. conveyed_settled a (e.conveyed.1 b);
  standing = λ a b. standing_settled a (e.standing.1 b);
}
