-- `marks::member_marks` meets its contract. The loop's invariant: the first x marks are right.
use Rattle.answers.specs.Marks.{MemberMarks}
use Rattle.answers.proofs.marks.member_marks.Given as goal

abbrev pub invariant-loop-x : goal.invariant-loop-x
invariant-loop-x l = MemberMarks l.row l.x l.s l.on
