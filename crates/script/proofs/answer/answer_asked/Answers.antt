-- The second room begins as zeros, and the arguments are the request's.
use borrow.Author.Rules.{rules}
use Rattle.script.specs.Run.{room_in}
use Rattle.script.proofs.Parts.{reply_asked}
use Rattle.script.proofs.answer.answer_asked.Goals as goal

pub answer_in-requires : goal.answer_in-requires
answer_in-requires g c = record { good = c.requires.good; long = search rules }

pub returns : goal.returns
returns g c =
    let a = c.args in
    reply_asked a.q a.script.now c.requires.fits.is (λ x y z. g.A.Answer.answers a.asked.now a.what x y (room_in a.q.room a.out.now) z) {o = c.answer_in.new.out} c.requires.fits.other c.answer_in.ensures
