-- `coverage::members::roots` meets its contract. The loop's invariant: w has the subjects of those that are no longer left.
use lib.ListN.{get_or}
use Rattle.keyset.specs.Word.{size}
use Rattle.places.specs.Limits.{revocation_limit}
use Rattle.coverage.proofs.Laws.Put.{Passing}
use Rattle.coverage.proofs.members.roots.Given as goal

abbrev pub invariant-loop-left : goal.invariant-loop-left
invariant-loop-left l = Passing l.members l.left (λ j. get_or l.delegations.subject.now (get_or l.target j 0) 0) l.w

abbrev pub decreases-loop-left : goal.decreases-loop-left
decreases-loop-left l = size revocation_limit l.left
