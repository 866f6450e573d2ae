-- `Evaluation::levels` meets its contract: one search with nobody excluded, by the final grades.
use Rattle.search.proofs.Laws.Complete.{sound_zeros}
use Rattle.coverage.proofs.Laws.Seek.{seen, ready, found_over, found_less}
use Rattle.caps.proofs.Laws.Caps.{grades_live}
use Rattle.evaluation.proofs.Laws.Ask.{effective_is}
use Rattle.evaluation.proofs.Evaluation.levels.Goals as goal

pub invariant_of-delegations : goal.invariant_of-delegations
invariant_of-delegations c =
    let v = c.args.self.now in
    let K = c.requires.0 in record {
      ready = ready v.facts v.grades 0 K.fit (grades_live K.fit K.grades.lives) c.index-edges.ensures K.subjects;
    }

pub search-requires : goal.search-requires
search-requires c = sound_zeros (seen c.args.self.now.facts c.args.self.now.grades 0)

pub returns : goal.returns
returns c =
    let v = c.args.self.now in
    let K = c.requires.0 in
    λ x h. effective_is v.facts v.grades K.grades c.only.result _ c.args.subject.0 x _
    (found_over v.facts v.grades 0 (found_less c.only.result c.search.result c.search.ensures.1 c.search.ensures.0)) c.only.ensures.0
    (c.row_of.ensures x h)
