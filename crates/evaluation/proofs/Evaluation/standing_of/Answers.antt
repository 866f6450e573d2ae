-- `Evaluation::standing_of` meets its contract.
use native.Mathlib.Omega.{arith}
use Rattle.rules.specs.Rules.{is_live}
use Rattle.evaluation.proofs.Laws.Ask.{named_found, named_nowhere, standing_revoked, standing_unsupported}
use Rattle.evaluation.proofs.Evaluation.standing_of.Goals as goal

pub returns-then-self-d-ne0 : goal.returns-then-self-d-ne0
returns-then-self-d-ne0 c = is_live (c.requires.0.grades.lives.yes c.args.delegation.0 (omega (arith, c.if-self-d-ne0.true)))

pub returns-then-contains : goal.returns-then-contains
returns-then-contains c =
    let v = c.args.self.now in
    let d = c.args.delegation.0 in
    standing_revoked v.facts v.grades c.requires.0.grades d c.requires.1 c.if-self-d-ne0.false
    (named_found v.facts.target v.facts.revocations d (rw c.if-contains.true at c.contains.ensures.cases))

pub returns : goal.returns
returns c =
    let v = c.args.self.now in
    let d = c.args.delegation.0 in
    standing_unsupported v.facts v.grades c.requires.0.grades d c.requires.1 c.if-self-d-ne0.false
    (named_nowhere v.facts.target v.facts.revocations d (omega (arith, c.requires.0.fit.revocations_le)) (rw c.if-contains.false at c.contains.ensures.cases))
