-- Both hints are right, so both keys stand where they say.
use Rattle.queries.proofs.Hinted.{fits, hinted_pair}
use Rattle.queries.proofs.evaluated.Evaluated.hinted.Goals as goal

pub look-requires : goal.look-requires
look-requires c = (fits c.requires.0.store.keys, c.requires.1)

pub look-requires-2 : goal.look-requires-2
look-requires-2 c = (fits c.requires.0.store.keys, c.requires.1)

pub returns : goal.returns
returns c =
    let s = c.in_ok-s.ensures in
    let x = c.in_ok-x.ensures in
    hinted_pair c.requires.0.store.keys s.0 x.0 s.1 x.1
