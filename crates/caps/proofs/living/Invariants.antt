-- `caps::living` meets its contract. The loop's invariant: of the first j revocations, w has those that name a live covered delegation.
use Rattle.search.specs.Sets.{Word}
use Rattle.coverage.specs.Arrays.{Below}
use Rattle.caps.specs.Caps.{Alive}
use Rattle.caps.proofs.living.Given as goal

abbrev pub invariant-loop-j : goal.invariant-loop-j
invariant-loop-j l = Word l.w (Below l.j (Alive l.target l.n l.excluded l.grades))
