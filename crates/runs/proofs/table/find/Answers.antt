-- A run that the table has stands where its order has the run's spot.
use mathlib.Core.Path.{sym, ◌∙◌}
use native.Mathlib.Omega.{arith}
use Rattle.runs.specs.Bytes.{run_at}
use Rattle.runs.proofs.ByteLaws.{eq_true}
use Rattle.runs.proofs.TableLaws.{there_below, there_fits, found_at, not_found, not_at_spot}
use Rattle.runs.proofs.table.find.Goals as goal

pub rank-p-requires : goal.rank-p-requires
rank-p-requires c = c.requires

pub same_at-requires : goal.same_at-requires
same_at-requires c =
    there_fits c.args.limit c.args.table.now c.args.n c.requires c.rank-p.result c.if-p-n.true c.from-i.result c.from-i.ensures

pub returns-then-same_at : goal.returns-then-same_at
returns-then-same_at c =
    let t = c.args.table.now in
    let i = c.from-i.result in
    found_at c.args.limit t c.args.n c.requires c.args.run.now i
    (there_below c.args.limit t c.args.n c.requires c.rank-p.result c.if-p-n.true i c.from-i.ensures)
    (eq_true (run_at t i) c.args.run.now (sym c.same_at.ensures ∙ c.if-same_at.true))

pub returns-else-same_at : goal.returns-else-same_at
returns-else-same_at c =
    let t = c.args.table.now in
    let x = c.args.run.now in
    not_found c.args.limit t c.args.n c.requires x
    (not_at_spot c.args.limit t c.args.n c.requires x (λ h. rw (← c.rank-p.ensures, ← c.from-i.ensures) (sym c.same_at.ensures ∙ c.if-same_at.false)))

pub returns-else-p-n : goal.returns-else-p-n
returns-else-p-n c =
    let t = c.args.table.now in
    let x = c.args.run.now in
    let e = c.rank-p.ensures in
    let q = c.if-p-n.false in
    not_found c.args.limit t c.args.n c.requires x (not_at_spot c.args.limit t c.args.n c.requires x (λ h. absurd (omega arith)))
