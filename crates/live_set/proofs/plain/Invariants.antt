-- `live_set::plain` meets its contract. The loop's invariant: the grades of the first d delegations stand.
use Rattle.coverage.specs.Arrays.{Filled}
use Rattle.live_set.specs.Live.{PlainAt}
use Rattle.live_set.proofs.plain.Given as goal

abbrev pub invariant-loop-d : goal.invariant-loop-d
invariant-loop-d l = Filled l.d (PlainAt l.power l.excluded) l.g
