-- `caps::caps` meets its contract. The loop's invariant: no cap is above the least levels (`Rising`). A round that is not the last raises a grade, and at
-- the last the grades are the caps.
use Rattle.caps.proofs.Laws.Rise.{room}
use Rattle.caps.proofs.Laws.Caps.{Rising}
use Rattle.caps.proofs.caps.Given as goal

abbrev pub invariant-loop-next : goal.invariant-loop-next
invariant-loop-next l = Rising l.facts l.grades

abbrev pub decreases-loop-next : goal.decreases-loop-next
decreases-loop-next l = room l.grades
