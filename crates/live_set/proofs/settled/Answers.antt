-- `live_set::settled` meets its contract. The loop's invariant: the grades of the first d delegations stand.
use Rattle.coverage.proofs.Laws.Fill.{filled_none}
use Rattle.live_set.proofs.settled.Goals as goal

pub loop-d-init : goal.loop-d-init
loop-d-init c = filled_none _
