-- `coverage::positive::powers` meets its contract. The loop's invariant: the grades of the first d delegations stand.
use Rattle.coverage.proofs.Laws.Fill.{filled_none}
use Rattle.coverage.proofs.positive.powers.Goals as goal

pub loop-d-init : goal.loop-d-init
loop-d-init c = filled_none _
