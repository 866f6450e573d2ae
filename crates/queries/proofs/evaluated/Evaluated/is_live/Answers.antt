-- Passed on, with the place that was sought.
use Rattle.queries.proofs.evaluated.Evaluated.is_live.Goals as goal

pub seek_delegation-asked-requires : goal.seek_delegation-asked-requires
seek_delegation-asked-requires c = c.requires

pub is_live-requires : goal.is_live-requires
is_live-requires c = (c.requires, c.seek_delegation-asked.ensures)

pub returns : goal.returns
returns c = c.is_live.ensures
