-- `marks::in_nodes` meets its contract. The loop's invariant: the first d marks are right.
use Rattle.answers.specs.Marks.{InNodes}
use Rattle.answers.proofs.marks.in_nodes.Given as goal

abbrev pub invariant-loop-d : goal.invariant-loop-d
invariant-loop-d l = InNodes l.subject l.d l.nodes l.on
