-- The values before j stand at the front.
use mathlib.Core.Path.{◌≡◌}
use lib.ListN.{take}
use Rattle.lent.specs.Bytes.{front}
use Rattle.runs.specs.Chosen.{values_at}
use Rattle.runs.proofs.list.put_values.Given as goal

abbrev pub invariant-loop-j : goal.invariant-loop-j
invariant-loop-j l = l.out ≡ front (values_at l.values (take l.j l.places)) l.initial.out
