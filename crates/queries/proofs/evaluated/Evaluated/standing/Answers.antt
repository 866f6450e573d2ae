-- Passed on, with the place that was sought.
use Rattle.queries.proofs.evaluated.Evaluated.standing.Goals as goal

pub seek_delegation-asked-requires : goal.seek_delegation-asked-requires
seek_delegation-asked-requires c = c.requires

pub standing-requires : goal.standing-requires
standing-requires c = (c.requires, c.seek_delegation-asked.ensures)

pub returns : goal.returns
returns c = c.standing.ensures
