-- Two hints that were right say what the search would; where one was not, it is searched.
use mathlib.Core.Path.{refl}
use native.Mathlib.Omega.{arith}
use Rattle.rules.specs.Rules.{PositiveIs}
use Rattle.store.specs.Store.{committed}
use Rattle.answers.specs.Graph.{graph}
use Rattle.answers.proofs.OverBytes.{positive_held}
use Rattle.answers.proofs.Cases.{answer_small, pair_at_lem, at_pair}
use Rattle.queries.proofs.evaluated.Evaluated.positive_power.Goals as goal

pub hinted-requires : goal.hinted-requires
hinted-requires c = (c.requires, omega arith)

pub positive_power-requires : goal.positive_power-requires
positive_power-requires c =
    let g = c.requires in
    let a = pair_at_lem c.in-Some.ensures refl in
    let h = a.subject_in in
    let k = a.audience_in in
    let r = g.store.keys.room in
    (g.evaluation, omega arith, omega arith)

pub level_of-requires : goal.level_of-requires
level_of-requires c = answer_small c.positive_power.result c.positive_power.ensures

pub returns-in-Some : goal.returns-in-Some
returns-in-Some c =
    let s = c.args.self.now in
    let g = c.requires in
    let a = pair_at_lem c.in-Some.ensures refl in
    at_pair (PositiveIs (graph (committed s.store))) a (positive_held s.store g.store s.evaluation.facts g.facts a.subject_in a.audience_in c.positive_power.ensures) c.level_of.ensures

pub hinted-requires-2 : goal.hinted-requires-2
hinted-requires-2 c = (c.requires, omega arith)

pub positive_power-requires-in-Some-hinted : goal.positive_power-requires-in-Some-hinted
positive_power-requires-in-Some-hinted c =
    let g = c.requires in
    let a = pair_at_lem c.in-Some-hinted.ensures refl in
    let h = a.subject_in in
    let k = a.audience_in in
    let r = g.store.keys.room in
    (g.evaluation, omega arith, omega arith)

pub level_of-requires-in-Some-hinted : goal.level_of-requires-in-Some-hinted
level_of-requires-in-Some-hinted c = answer_small c.positive_power-in-Some-hinted.result c.positive_power-in-Some-hinted.ensures

pub returns-in-Some-hinted : goal.returns-in-Some-hinted
returns-in-Some-hinted c =
    let s = c.args.self.now in
    let g = c.requires in
    let a = pair_at_lem c.in-Some-hinted.ensures refl in
    at_pair (PositiveIs (graph (committed s.store))) a (positive_held s.store g.store s.evaluation.facts g.facts a.subject_in a.audience_in c.positive_power-in-Some-hinted.ensures) c.level_of-in-Some-hinted.ensures
