-- `standing` meets its contract: what was sought settles the case, and what holds of the delegation at its place holds of its bytes.
use mathlib.Core.Path.{sym, subst, ap, ◌∙◌}
use Rattle.store.specs.Store.{committed}
use Rattle.answers.specs.Graph.{graph}
use Rattle.answers.specs.Answers as says
use Rattle.answers.proofs.Places.{table}
use Rattle.rules.specs.Rules.{StandingIs, live, revoked, unsupported}
use Rattle.rules.proofs.Stores.Places.{standing_bytes}
use Rattle.answers.specs.Answers.{StandingAnswer}
use Rattle.keyline.proofs.HandedOn.{handed_on}
use Rattle.answers.proofs.Cases.{delegation_at_place, delegation_unheld, delegation_refused, not_held, is_held, with_is}
use Rattle.standings.proofs.standing.Goals as goal
use Rattle.std.specs.Prelude.{Ok, Err}

pub standing_of-requires : goal.standing_of-requires
standing_of-requires c =
    let g = c.requires.0 in
    let a = delegation_at_place c.requires.1 (c.in_ok-asked.was ∙ ap Ok c.in-Some.is) in
    (g.evaluation, rw g.facts.delegations a.within)

pub returns-in_err-asked : goal.returns-in_err-asked
returns-in_err-asked c =
    let s = c.args in
    rw (handed_on c.from_residual.result c.in_err-asked.field-0.0 c.from_residual.ensures.1)
    (delegation_refused (λ w. StandingAnswer (committed s.store.now) s.digest.now (Err w)) says.digest-length c.requires.1 c.in_err-asked.was)

pub returns-in-None : goal.returns-in-None
returns-in-None c =
    let s = c.args in
    let n = delegation_unheld c.requires.1 (c.in_ok-asked.was ∙ ap Ok c.in-None.is) in
    says.absent n.long (not_held s.store.now c.requires.0.store s.digest.now n)

pub returns-in-Live : goal.returns-in-Live
returns-in-Live c =
    let s = c.args in
    let g = c.requires.0 in
    let st = s.store.now in
    let x = s.digest.now in
    let a = delegation_at_place c.requires.1 (c.in_ok-asked.was ∙ ap Ok c.in-Some.is) in
    let t = standing_bytes (table st g.store s.evaluation.now.facts g.facts) (rw g.facts.delegations a.within) (rw c.in-Live.is at c.standing_of.ensures) in
    says.answered a.long (is_held st g.store x c.in-Some.d a) (subst (λ y. StandingIs (graph (committed st)) y live) (sym (with_is st g.store x c.in-Some.d a)) t) says.live

pub returns-in-Revoked : goal.returns-in-Revoked
returns-in-Revoked c =
    let s = c.args in
    let g = c.requires.0 in
    let st = s.store.now in
    let x = s.digest.now in
    let a = delegation_at_place c.requires.1 (c.in_ok-asked.was ∙ ap Ok c.in-Some.is) in
    let t = standing_bytes (table st g.store s.evaluation.now.facts g.facts) (rw g.facts.delegations a.within) (rw c.in-Revoked.is at c.standing_of.ensures) in
    says.answered a.long (is_held st g.store x c.in-Some.d a) (subst (λ y. StandingIs (graph (committed st)) y revoked) (sym (with_is st g.store x c.in-Some.d a)) t) says.revoked

pub returns-in-Unsupported : goal.returns-in-Unsupported
returns-in-Unsupported c =
    let s = c.args in
    let g = c.requires.0 in
    let st = s.store.now in
    let x = s.digest.now in
    let a = delegation_at_place c.requires.1 (c.in_ok-asked.was ∙ ap Ok c.in-Some.is) in
    let t = standing_bytes (table st g.store s.evaluation.now.facts g.facts) (rw g.facts.delegations a.within) (rw c.in-Unsupported.is at c.standing_of.ensures) in
    says.answered a.long (is_held st g.store x c.in-Some.d a) (subst (λ y. StandingIs (graph (committed st)) y unsupported) (sym (with_is st g.store x c.in-Some.d a)) t) says.unsupported
