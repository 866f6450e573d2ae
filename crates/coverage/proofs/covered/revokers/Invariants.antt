-- `coverage::covered::revokers` meets its contract. The loop's invariant: the words stand for the first j revocations.
use Rattle.coverage.specs.Coverage.{RevokersBy}
use Rattle.coverage.proofs.covered.revokers.Given as goal

abbrev pub invariant-loop-j : goal.invariant-loop-j
invariant-loop-j l = RevokersBy l.revoker l.target l.j l.n l.words
