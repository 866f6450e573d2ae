use Rattle.runs.proofs.ByteLaws.{run_part}
use Rattle.runs.proofs.bytes.run_at.Goals as goal

pub returns-clause-value : goal.returns-clause-value
returns-clause-value c = run_part c.args.bytes.now c.args.i
