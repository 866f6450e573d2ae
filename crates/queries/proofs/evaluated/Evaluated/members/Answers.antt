-- Passed on as it is.
use Rattle.queries.proofs.evaluated.Evaluated.members.Goals as goal

pub members-requires : goal.members-requires
members-requires c = c.requires

pub returns : goal.returns
returns c = c.members.ensures
