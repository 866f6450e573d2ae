-- `marks::naming` meets its contract. The loop's invariant: the first j marks are right.
use Rattle.answers.specs.Marks.{Naming}
use Rattle.answers.proofs.marks.naming.Given as goal

abbrev pub invariant-loop-j : goal.invariant-loop-j
invariant-loop-j l = Naming l.target l.j l.on l.n l.marks
