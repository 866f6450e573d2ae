-- `keyline_run` hands over what `run` answers, by its two cases.
use Rattle.exports.proofs.Running.{ran_bytes, ran_refused}
use Rattle.exports.proofs.keyline_run.Goals as goal

pub returns-in-Ok : goal.returns-in-Ok
returns-in-Ok c = ran_bytes c.run.ensures c.in-Ok.is

pub returns-in-Err : goal.returns-in-Err
returns-in-Err c = ran_refused c.run.ensures c.in-Err.is c.number.ensures c.beside.ensures
