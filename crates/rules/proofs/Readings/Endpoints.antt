-- Mistake 15 changes nothing: without the tests that issuer and subject are outside N(d), the live covered delegations are the same ones
-- (`ends_live_covered`), so the live ones are (`ends_live`), and every answer is (`ends_each_way`, `ends_same`).
-- D1 and D2 let nobody in N(d) stand, so that whoever is reached passes both tests (Alike).
use mathlib.Core.Logic.{◌↔◌}
use Rattle.rules.specs.Rules.{Shape, Graph, LiveCovered, Live}
use Rattle.rules.specs.Readings.{EligibleAnyEnds, ends_untested, LiveCoveredBy, LiveBy, SameAnswers, EachWay}
use Rattle.rules.proofs.Readings.Settled.{each_way_same}
use Rattle.rules.proofs.Readings.Alike.{Alike, live_covered_alike, live_alike, each_way_alike}

module _ {W : Shape} {G : Graph W} where
  ends_alike : Alike G (EligibleAnyEnds G)
  ends_alike = record {
    there = λ e. record { covered = e.covered; audience = e.audience };
    back = λ e i s. record { covered = e.covered; issuer = i; subject = s; audience = e.audience };
  }

  pub ends_live_covered : {d : W.Del} → LiveCovered G d ↔ LiveCoveredBy G (ends_untested G) d
  ends_live_covered = live_covered_alike ends_alike

  pub ends_live : {d : W.Del} → Live G d ↔ LiveBy G (ends_untested G) d
  ends_live = live_alike ends_alike

  pub ends_each_way : EachWay G (ends_untested G)
  ends_each_way = each_way_alike ends_alike

  pub ends_same : SameAnswers G (ends_untested G)
  ends_same = each_way_same ends_each_way
