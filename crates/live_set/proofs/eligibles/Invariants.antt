-- `live_set::eligibles` meets its contract. The loop's invariant: of the first j revocations, w has those that name an eligible delegation.
use Rattle.search.specs.Sets.{Word}
use Rattle.coverage.specs.Arrays.{Below}
use Rattle.live_set.specs.Live.{Open}
use Rattle.live_set.proofs.eligibles.Given as goal

abbrev pub invariant-loop-j : goal.invariant-loop-j
invariant-loop-j l = Word l.w (Below l.j (Open l.target l.n l.issuer l.audience l.subject l.revokers l.excluded))
