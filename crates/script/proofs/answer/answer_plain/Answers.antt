-- The second room is zeros.
use mathlib.Core.Path.{ap, ◌∙◌}
use Rattle.script.specs.Run.{inPlace, room_in}
use Rattle.script.proofs.Parts.{first_zeros}
use Rattle.script.proofs.answer.answer_plain.Goals as goal

pub returns : goal.returns
returns c = c.put.ensures ∙ ap (λ z. inPlace c.args.r (room_in c.args.room c.args.out.now) z) (first_zeros c.args.other c.requires.1)
