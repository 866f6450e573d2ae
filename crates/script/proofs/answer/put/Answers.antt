-- The head at the front, the second room behind the first.
use mathlib.Core.Path.{ap, ◌∙◌}
use Rattle.lent.specs.Bytes.{put_within}
use Rattle.script.proofs.Parts.{in_place}
use Rattle.script.proofs.answer.put.Goals as goal

pub returns : goal.returns
returns c = in_place c.args.r c.args.out.now _ _ c.args.other.now c.args.room c.requires (c.put_at.ensures ∙ ap (λ h. put_within c.args.out.now 0 h) c.head-head.ensures) c.put_at-2.ensures
