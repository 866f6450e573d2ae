-- `live_set::live_set` meets its contract. The loop's invariant: what is usable and what waits (`Usables`). Each round that is not the last takes from
-- those that wait, and at the last the usable ones are the live ones.
use Rattle.keyset.specs.Word.{size}
use Rattle.places.specs.Limits.{revocation_limit}
use Rattle.live_set.proofs.Laws.Live.{Usables}
use Rattle.live_set.proofs.live_set.Given as goal

abbrev pub invariant-loop-grades : goal.invariant-loop-grades
invariant-loop-grades l = Usables l.facts l.excluded l.grades l.waiting

abbrev pub decreases-loop-grades : goal.decreases-loop-grades
decreases-loop-grades l = size revocation_limit l.waiting
