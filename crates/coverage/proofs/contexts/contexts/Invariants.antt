-- `coverage::contexts::contexts` meets its contract. The loop's invariant: the contexts of the first j revocations stand.
use Rattle.coverage.proofs.Laws.Group.{Grouping}
use Rattle.coverage.proofs.contexts.contexts.Given as goal

abbrev pub invariant-loop-j : goal.invariant-loop-j
invariant-loop-j l = Grouping l.target l.excluded l.j l.n l.count l.exclude l.members
