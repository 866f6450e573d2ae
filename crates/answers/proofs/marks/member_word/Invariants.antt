-- `marks::member_word` meets its contract. The loop's invariant: the word has the members among the keys looked at.
use Rattle.answers.specs.Marks.{MemberWord}
use Rattle.answers.proofs.marks.member_word.Given as goal

abbrev pub invariant-loop-x : goal.invariant-loop-x
invariant-loop-x l = MemberWord l.row l.x l.s l.w
