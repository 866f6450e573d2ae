-- A hint that was right says what the search would; where none was, it is searched.
use native.Mathlib.Omega.{arith}
use Rattle.queries.proofs.Hinted.{fits, hinted_delegation}
use Rattle.queries.proofs.evaluated.Evaluated.seek_delegation.Goals as goal

pub look-requires : goal.look-requires
look-requires c = (fits c.requires.store.delegations.digests, omega arith)

pub returns-in-Some : goal.returns-in-Some
returns-in-Some c =
    let d = c.in-Some.ensures in
    hinted_delegation c.requires.store.delegations.digests d.0 d.1

pub look-requires-2 : goal.look-requires-2
look-requires-2 c = (fits c.requires.store.delegations.digests, omega arith)

pub returns-in-Some-look : goal.returns-in-Some-look
returns-in-Some-look c =
    let d = c.in-Some-look.ensures in
    hinted_delegation c.requires.store.delegations.digests d.0 d.1
