-- The room that was lent is the part that comes back.
use native.Mathlib.Omega.{arith}
use Rattle.script.proofs.Parts.{reply_back}
use Rattle.script.proofs.answer.answer_in.Goals as goal

pub returns : goal.returns
returns g c =
    let a = c.args in
    let l = c.requires.long in
    reply_back (λ p. g.A.Answer.answers a.asked.now a.what a.x.now a.y.now p a.other.now) a.out.now c.answer-r.new.room c.answer-r.new.other c.put.new.out c.answer-r.result a.room c.answer-r.ensures (omega (arith, c.out-1.given, l)) (omega arith) c.put.ensures
