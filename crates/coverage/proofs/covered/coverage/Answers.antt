-- `coverage::covered::coverage` meets its contract. The loop's invariant: the words of the first d delegations stand.
use Rattle.coverage.proofs.Laws.Fill.{filled_none}
use Rattle.coverage.proofs.covered.coverage.Goals as goal

pub loop-d-init : goal.loop-d-init
loop-d-init c = filled_none _
