-- `search::rounds::round` meets its contract. The loop's invariant: what the passes so far have done (`Passed`).
use Rattle.keyset.specs.Word.{size}
use Rattle.places.specs.Limits.{key_limit}
use Rattle.search.specs.Delegations.{graph_of}
use Rattle.search.specs.Rounds.{Passed}
use Rattle.search.proofs.rounds.round.Given as goal

abbrev pub invariant-loop-s : goal.invariant-loop-s
invariant-loop-s l =
    Passed (graph_of l.delegations l.exclude) l.delegations.subjects l.known 0 l.initial.levels l.s.known l.s.left l.s.due l.levels

abbrev pub decreases-loop-s : goal.decreases-loop-s
decreases-loop-s l = size key_limit l.s.left
