-- `conveyed_power` meets its contract: what was sought settles the case, and what holds of the delegation at its place holds of its bytes.
use mathlib.Core.Path.{sym, subst, ap, ◌∙◌}
use Rattle.store.specs.Store.{committed}
use Rattle.answers.specs.Graph.{graph}
use Rattle.answers.specs.Answers as says
use Rattle.answers.proofs.Places.{table}
use Rattle.rules.specs.Rules.{ConveyedIs}
use Rattle.rules.specs.Rows.{level_of}
use Rattle.rules.proofs.Stores.Places.{conveyed_bytes}
use Rattle.coverage.specs.Places.{places}
use Rattle.answers.specs.Answers.{ConveyedPower}
use Rattle.keyline.proofs.HandedOn.{handed_on}
use Rattle.answers.proofs.Cases.{conveyed_small, delegation_at_place, delegation_unheld, delegation_refused, not_held, is_held, with_is}
use Rattle.powers.proofs.conveyed_power.Goals as goal
use Rattle.std.specs.Prelude.{Ok, Err}

pub conveyed_power-requires : goal.conveyed_power-requires
conveyed_power-requires c =
    let g = c.requires.0 in
    let a = delegation_at_place c.requires.1 (c.in_ok-asked.was ∙ ap Ok c.in-Some.is) in
    (g.evaluation, rw g.facts.delegations a.within)

pub level_of-requires : goal.level_of-requires
level_of-requires c = conveyed_small (places c.args.evaluation.now.facts) c.conveyed_power.result c.conveyed_power.ensures

pub returns-in_err-asked : goal.returns-in_err-asked
returns-in_err-asked c =
    let s = c.args in
    rw (handed_on c.from_residual.result c.in_err-asked.field-0.0 c.from_residual.ensures.1)
    (delegation_refused (λ w. ConveyedPower (committed s.store.now) s.digest.now (Err w)) says.digest-length c.requires.1 c.in_err-asked.was)

pub returns-in-None : goal.returns-in-None
returns-in-None c =
    let s = c.args in
    let n = delegation_unheld c.requires.1 (c.in_ok-asked.was ∙ ap Ok c.in-None.is) in
    says.absent n.long (not_held s.store.now c.requires.0.store s.digest.now n)

pub returns-in-Some : goal.returns-in-Some
returns-in-Some c =
    let s = c.args in
    let g = c.requires.0 in
    let st = s.store.now in
    let x = s.digest.now in
    let a = delegation_at_place c.requires.1 (c.in_ok-asked.was ∙ ap Ok c.in-Some.is) in
    says.answered a.long (is_held st g.store x c.in-Some.d a)
    (subst (λ y. ConveyedIs (graph (committed st)) y (level_of c.conveyed_power.result)) (sym (with_is st g.store x c.in-Some.d a))
    (conveyed_bytes (table st g.store s.evaluation.now.facts g.facts) (rw g.facts.delegations a.within) c.conveyed_power.ensures))
    c.level_of.ensures
