-- The reply that the answer is, in its part of the answers.
use mathlib.Core.Path.{ap, ◌∙◌}
use Rattle.script.specs.Run.{inPlace, room_in, zeros}
use Rattle.script.proofs.answer.answer_inserted.Goals as goal

pub returns : goal.returns
returns c =
    c.answer_plain.ensures ∙ ap (λ r. inPlace r (room_in c.args.q.room c.args.out.now) (zeros c.args.q.other)) c.from.ensures
