-- `Evaluation::conveyed_power` meets its contract.
use Prim.Native.Nat.{ℕ}
use mathlib.Core.Path.{sym, subst}
use native.Mathlib.Omega.{arith}
use lib.ListN.{get_or}
use Rattle.rules.specs.Rules.{ConveyedIs, EffectiveIs}
use Rattle.rules.specs.Rows.{level_of}
use Rattle.coverage.specs.Places.{places}
use Rattle.coverage.proofs.Laws.Net.{net_covered, live_net}
use Rattle.evaluation.proofs.Laws.Ask.{conveyed_none, conveyed_cap, conveyed_plain}
use Rattle.evaluation.proofs.Evaluation.conveyed_power.Goals as goal

pub returns-then-grade-eq0 : goal.returns-then-grade-eq0
returns-then-grade-eq0 c = conveyed_none c.args.self.now.facts c.args.self.now.grades c.requires.0.grades c.args.delegation.0 c.if-grade-eq0.true

pub returns-then-self-d-ne0 : goal.returns-then-self-d-ne0
returns-then-self-d-ne0 c =
    let v = c.args.self.now in
    let K = c.requires.0 in
    let d = c.args.delegation.0 in
    conveyed_cap v.facts v.grades K.grades d (omega (arith, c.if-grade-eq0.false)) (λ u. u.uncovered.not (net_covered v.facts v.excluded K.excluded d (omega (arith, c.if-self-d-ne0.true))))

pub returns : goal.returns
returns c =
    let v = c.args.self.now in
    let K = c.requires.0 in
    let d = c.args.delegation.0 in
    let row = c.levels-row.result in
    let q : EffectiveIs (places v.facts) (get_or v.facts.subject d 0) (get_or v.facts.issuer d 0) (level_of (get_or row c.from-2.result 0)) =
    subst (λ (z : ℕ). EffectiveIs (places v.facts) (get_or v.facts.subject d 0) z (level_of (get_or row c.from-2.result 0))) c.from-2.ensures
    (subst (λ (z : ℕ). EffectiveIs (places v.facts) z c.from-2.result (level_of (get_or row c.from-2.result 0))) c.from.ensures
    (c.levels-row.ensures c.from-2.result (omega (arith, c.from-2.ensures, K.fit.issuer_lt d)))) in
    subst (λ (z : ℕ). ConveyedIs (places v.facts) d (level_of z)) (sym c.min.ensures)
    (conveyed_plain v.facts v.grades K.grades d (omega (arith, c.if-grade-eq0.false)) (λ p. let z = live_net v.facts v.excluded K.excluded p in omega (arith, c.if-self-d-ne0.false))
    (get_or row c.from-2.result 0) q)
