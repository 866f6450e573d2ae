-- `coverage::covered::coverage` meets its contract. The loop's invariant: the words of the first d delegations stand.
use lib.ListN.{get_or}
use Rattle.coverage.specs.Arrays.{Filled}
use Rattle.coverage.specs.Coverage.{Exclusion}
use Rattle.coverage.proofs.covered.coverage.Given as goal

abbrev pub invariant-loop-d : goal.invariant-loop-d
invariant-loop-d l = Filled l.d (λ i w. Exclusion (get_or l.revokers i 0) (get_or l.subject i 0) l.subjects l.found w) l.excluded
