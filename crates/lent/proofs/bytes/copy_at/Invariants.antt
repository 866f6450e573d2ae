-- `copy_at` puts the run into the buffer. The loop's invariant: the first j bytes of the run are pasted in, and nothing else has changed.
use mathlib.Core.Path.{◌≡◌}
use lib.ListN.{length}
use lib.Seq.{paste}
use Rattle.lent.proofs.bytes.copy_at.Given as goal

abbrev pub invariant-loop-j : goal.invariant-loop-j
invariant-loop-j l = (l.out ≡ paste l.initial.out l.at l.src l.j) × (length l.out ≡ length l.initial.out)
