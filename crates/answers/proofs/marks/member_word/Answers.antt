-- `marks::member_word` meets its contract. The loop's invariant: the word has the members among the keys looked at.
use native.Mathlib.Omega.{arith}
use Rattle.keyset.proofs.Laws.{bit_none}
use Rattle.answers.proofs.marks.member_word.Goals as goal

pub loop-x-init : goal.loop-x-init
loop-x-init c = record { has = λ x h e. absurd (omega (arith, h)); only = λ x e. absurd (omega (arith, bit_none x)) }
