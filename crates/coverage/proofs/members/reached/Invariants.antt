-- `coverage::members::reached` meets its contract. The loop's invariant: of the members that are no longer left, w has those whose delegation's issuer was found.
use lib.ListN.{get_or}
use Rattle.keyset.specs.Word.{size}
use Rattle.places.specs.Limits.{revocation_limit}
use Rattle.search.specs.Levels.{On}
use Rattle.search.proofs.Laws.Sets.{Gathered}
use Rattle.coverage.proofs.members.reached.Given as goal

abbrev pub invariant-loop-left : goal.invariant-loop-left
invariant-loop-left l =
    Gathered (λ j. On l.found 0 (get_or l.delegations.subject.now (get_or l.target j 0) 0) (get_or l.delegations.issuer.now (get_or l.target j 0) 0)) l.members l.left l.w

abbrev pub decreases-loop-left : goal.decreases-loop-left
decreases-loop-left l = size revocation_limit l.left
