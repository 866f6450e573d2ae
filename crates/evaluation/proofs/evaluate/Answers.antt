-- `evaluation::evaluate` meets its contract: stratum 1, then stratum 2. In the proof of a need, f is the function as it was called.
use mathlib.Core.Path.{refl}
use Rattle.rules.specs.Rules.{Positive}
use Rattle.search.specs.Levels.{Found}
use Rattle.search.proofs.Laws.Complete.{sound_zeros}
use Rattle.coverage.specs.Places.{places}
use Rattle.coverage.specs.Coverage.{Nets}
use Rattle.coverage.proofs.Laws.Fill.{filled_map}
use Rattle.coverage.proofs.Laws.Seek.{seen, ready, found_over, found_less}
use Rattle.coverage.proofs.Laws.Cover.{net_is}
use Rattle.evaluation.proofs.Laws.Ask.{grades_all, found_positive}
use Rattle.evaluation.proofs.evaluate.Goals.{After-coverage-excluded, After-search}
use Rattle.evaluation.proofs.evaluate.Goals as goal

-- what the search found is positive power
positive : (c : After-search) → Found (Positive (places c.args.facts)) c.subjects-subjects.result (c.search.new.levels)
positive c =
    let g = c.powers-all in
    let e = c.args.facts in
    found_positive e e.fit g.result g.ensures (found_over e g.result 0 (found_less c.subjects-subjects.result c.search.result c.search.ensures.1 c.search.ensures.0))

-- the words are N(d)
nets : (c : After-coverage-excluded) → Nets c.args.facts c.coverage-excluded.result
nets c =
    let s = c.subjects-subjects in
    filled_map (λ d w h X. net_is c.args.facts s.result (c.search.new.levels) s.ensures (let g = c.powers-all in
    let e = c.args.facts in
    found_positive e e.fit g.result g.ensures (found_over e g.result 0 (found_less c.subjects-subjects.result c.search.result c.search.ensures.1 c.search.ensures.0))) d h _ (c.revokers-revokers.ensures.is d h) w X) c.coverage-excluded.ensures

pub invariant_of-delegations : goal.invariant_of-delegations
invariant_of-delegations c =
    let g = c.powers-all in
    let e = c.args.facts in record {
      ready = ready e g.result 0 e.fit (grades_all e e.fit g.result g.ensures) c.index-edges.ensures c.subjects-subjects.ensures;
    }

pub search-requires : goal.search-requires
search-requires c = sound_zeros (seen c.args.facts c.powers-all.result 0)

pub live_set-live-requires-clause-revokers_by : goal.live_set-live-requires-clause-revokers_by
live_set-live-requires-clause-revokers_by c = (c.revokers-revokers.ensures, nets (goal.at.live_set-live-requires-clause-revokers_by c).After-coverage-excluded)

pub caps-grades-requires-clause-nets : goal.caps-grades-requires-clause-nets
caps-grades-requires-clause-nets c = (nets (goal.at.caps-grades-requires-clause-nets c).After-coverage-excluded, c.contexts-contexts.ensures)

pub returns : goal.returns
returns c = (
  refl,
  record {
    fit = c.args.facts.fit;
    subjects = c.subjects-subjects.ensures;
    found = positive (goal.at.returns c).After-search;
    reach = c.reach-reach.ensures;
    excluded = nets (goal.at.returns c).After-coverage-excluded;
    grades = c.caps-grades.ensures;
  },
)
