-- `live_set::live_round` meets its contract: what is not reached with nobody excluded is no candidate.
use Rattle.search.specs.Delegations.{graph_of}
use Rattle.search.proofs.Laws.Complete.{sound_zeros}
use Rattle.coverage.proofs.Laws.Seek.{found_less}
use Rattle.live_set.proofs.Laws.Context.{candidates_enough}
use Rattle.live_set.proofs.live_round.Goals as goal

pub search-requires : goal.search-requires
search-requires c = sound_zeros (graph_of c.args.delegations.now 0)

pub returns : goal.returns
returns c =
    let a = c.args in
    let s = a.delegations.now in
    let g = a.contexts.now in
    let F = found_less s.subjects c.search.result c.search.ensures.1 c.search.ensures.0 in record {
      found = F;
      word = candidates_enough s.issuer.now s.audience.now s.subject.now s.grades.now g.exclude g.members a.target.now _
          g.count s.subjects a.waiting c.reached-candidates.result c.newly_live.result F c.requires.about c.reached-candidates.ensures c.newly_live.ensures;
    }
