-- Passed on, with the place that was sought.
use Rattle.queries.proofs.evaluated.Evaluated.conveyed_power.Goals as goal

pub seek_delegation-asked-requires : goal.seek_delegation-asked-requires
seek_delegation-asked-requires c = c.requires

pub conveyed_power-requires : goal.conveyed_power-requires
conveyed_power-requires c = (c.requires, c.seek_delegation-asked.ensures)

pub returns : goal.returns
returns c = c.conveyed_power.ensures
