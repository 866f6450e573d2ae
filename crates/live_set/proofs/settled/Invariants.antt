-- `live_set::settled` meets its contract. The loop's invariant: the grades of the first d delegations stand.
use Rattle.coverage.specs.Arrays.{Filled}
use Rattle.live_set.specs.Live.{SettledAt}
use Rattle.live_set.proofs.settled.Given as goal

abbrev pub invariant-loop-d : goal.invariant-loop-d
invariant-loop-d l = Filled l.d (SettledAt l.issuer l.subject l.excluded l.grades l.base) l.g
