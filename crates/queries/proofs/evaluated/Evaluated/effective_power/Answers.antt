-- Both powers are refused for the same lengths, and where nothing is held positively, nothing is held effectively; else it is asked.
use mathlib.Core.Path.{ap, ◌∙◌}
use Rattle.std.specs.Prelude.{Ok}
use Rattle.answers.proofs.OverBytes.{effective_none}
use Rattle.answers.proofs.Cases.{refused_too, nothing_too}
use Rattle.keyline.proofs.HandedOn.{handed_on}
use Rattle.queries.proofs.evaluated.Evaluated.effective_power.Goals as goal

pub positive_power-requires : goal.positive_power-requires
positive_power-requires c = c.requires

pub effective_power-requires : goal.effective_power-requires
effective_power-requires c = c.requires

pub returns-in_err-positive_power : goal.returns-in_err-positive_power
returns-in_err-positive_power c =
    rw (handed_on c.from_residual.result c.in_err-positive_power.field-0.0 c.from_residual.ensures.1)
    (refused_too c.positive_power.ensures c.in_err-positive_power.was)

pub returns-in-None : goal.returns-in-None
returns-in-None c =
    let s = c.args.self.now in
    let g = c.requires in
    nothing_too (effective_none s.store g.store s.evaluation.facts g.facts g.evaluation.grades.caps) c.positive_power.ensures (c.in_ok-positive_power.was ∙ ap Ok c.in-None.is)

pub returns-in-Some : goal.returns-in-Some
returns-in-Some c = c.effective_power.ensures
