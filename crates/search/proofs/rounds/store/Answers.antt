-- `search::rounds::store` meets its contract. The loop's invariant: the words below l are stored.
use native.Mathlib.Omega.{arith}
use Rattle.search.proofs.Laws.Store.{storing_more}
use Rattle.search.proofs.rounds.store.Goals as goal

pub loop-l-preserved : goal.loop-l-preserved
loop-l-preserved c =
    let a = c.args in
    let l = c.loop-l in
    storing_more a.r l.l a.row.now a.levels.now l.levels l.rose c.minus-fresh.result l.invariant c.loop-l-test.true c.requires
    (omega arith) c.minus-fresh.ensures (omega (arith, c.minus-fresh.type_inv))
