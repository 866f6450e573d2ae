-- `search::rounds::store` meets its contract. The loop's invariant: the words below l are stored.
use Rattle.search.specs.Rounds.{Stored}
use Rattle.search.proofs.rounds.store.Given as goal

abbrev pub invariant-loop-l : goal.invariant-loop-l
invariant-loop-l l = Stored l.r l.l l.row l.initial.levels l.levels l.rose
