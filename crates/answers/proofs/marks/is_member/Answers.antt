-- `marks::is_member` meets its contract.
use borrow.Author.Tests.{eq-eqb, ne_eqb}
use Rattle.answers.specs.Marks.{isMember}
use Rattle.answers.proofs.marks.is_member.Goals as goal

pub returns-then-byte-ne0 : goal.returns-then-byte-ne0
unfolding isMember
returns-then-byte-ne0 c = simp (ne_eqb _ _ c.if-byte-ne0.true)

pub returns-else-byte-ne0 : goal.returns-else-byte-ne0
unfolding isMember
returns-else-byte-ne0 c = simp (eq-eqb _ _ c.if-byte-ne0.false)
