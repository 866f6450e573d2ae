-- Passed on as it is.
use Rattle.queries.proofs.evaluated.Evaluated.closure.Goals as goal

pub closure-requires : goal.closure-requires
closure-requires c = c.requires

pub returns : goal.returns
returns c = c.closure.ensures
