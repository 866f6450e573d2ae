-- `coverage::positive::subjects` meets its contract. The loop's invariant: w has the subjects of the first d delegations.
use Rattle.coverage.proofs.Laws.Fill.{any_none}
use Rattle.coverage.proofs.positive.subjects.Goals as goal

pub loop-d-init : goal.loop-d-init
loop-d-init c = any_none _
