-- What a store stands for: the certificates that it holds. Rests on Parts.
use Rattle.tables.specs.Committed.{Committed}
use Rattle.store.specs.Parts.{holds, GoodParts}
use Rattle.store.specs.declared.Store.{Store}

abbrev pub committed : Store → Committed
committed s = holds s.keys s.delegations s.revocations

-- what holds of every store, by its type
abbrev pub GoodStore : Store → Type 0
GoodStore s = GoodParts s.keys s.delegations s.revocations s.version
