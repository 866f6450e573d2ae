-- `positive_power` meets its contract: what was sought settles the case, and the evaluation's answer at places is the one over bytes.
use mathlib.Core.Path.{sym, subst, ap, ◌∙◌}
use Rattle.std.specs.Prelude.{Ok}
use mathlib.Core.Option.{some}
use native.Mathlib.Omega.{arith}
use Rattle.rules.specs.Rules.{Admin, PositiveIs}
use Rattle.store.specs.Store.{committed}
use Rattle.answers.specs.Graph.{graph}
use Rattle.answers.proofs.OverBytes.{positive_self, positive_no_subject, positive_no_audience, positive_held}
use Rattle.answers.proofs.Cases.{answer_small, pair_refused, pair_same, pair_unheld, pair_at_lem, at_pair}
use Rattle.keyline.proofs.HandedOn.{handed_on}
use Rattle.powers.proofs.positive_power.Goals as goal

pub slice_bounds-seek_pair-end : goal.slice_bounds-seek_pair-end
slice_bounds-seek_pair-end c = sym c.requires.store.keys.long

pub seek_pair-requires : goal.seek_pair-requires
seek_pair-requires c = c.requires.store.keys

pub positive_power-requires : goal.positive_power-requires
positive_power-requires c =
    let g = c.requires in
    let a = pair_at_lem c.seek_pair.ensures (c.in_ok-seek_pair.was ∙ ap Ok c.in-At.is) in
    let h = a.subject_in in
    let k = a.audience_in in
    let r = g.store.keys.room in
    (g.evaluation, omega arith, omega arith)

pub level_of-requires : goal.level_of-requires
level_of-requires c = answer_small c.positive_power.result c.positive_power.ensures

pub returns-in_err-seek_pair : goal.returns-in_err-seek_pair
returns-in_err-seek_pair c =
    let s = c.args in
    rw (handed_on c.from_residual.result c.in_err-seek_pair.field-0.0 c.from_residual.ensures.1)
    (pair_refused (PositiveIs (graph (committed s.store.now)) s.subject.now s.audience.now) c.seek_pair.ensures c.in_err-seek_pair.was)

pub returns-in-Same : goal.returns-in-Same
returns-in-Same c =
    let s = c.args in
    let g = c.requires in
    let P = PositiveIs (graph (committed s.store.now)) s.subject.now in
    pair_same (P s.audience.now) (λ e. subst (λ y. P y (some Admin)) e (positive_self (committed s.store.now) s.subject.now)) c.seek_pair.ensures (c.in_ok-seek_pair.was ∙ ap Ok c.in-Same.is)

pub returns-in-Unheld : goal.returns-in-Unheld
returns-in-Unheld c =
    let s = c.args in
    let g = c.requires in
    pair_unheld (PositiveIs (graph (committed s.store.now)) s.subject.now s.audience.now)
    (positive_no_subject s.store.now g.store s.subject.now s.audience.now) (positive_no_audience s.store.now g.store s.subject.now s.audience.now) c.seek_pair.ensures (c.in_ok-seek_pair.was ∙ ap Ok c.in-Unheld.is)

pub returns-in-At : goal.returns-in-At
returns-in-At c =
    let s = c.args in
    let g = c.requires in
    let a = pair_at_lem c.seek_pair.ensures (c.in_ok-seek_pair.was ∙ ap Ok c.in-At.is) in
    at_pair (λ y z o. PositiveIs (graph (committed s.store.now)) y z o) a (positive_held s.store.now g.store s.evaluation.now.facts g.facts a.subject_in a.audience_in c.positive_power.ensures) c.level_of.ensures
