-- `search::rounds::pass` meets its contract: the row that `widest` makes is stored, and the roots that wait for it fall due (Laws/Round.antt).
use native.Mathlib.Omega.{arith}
use Rattle.search.specs.Delegations.{graph_of}
use Rattle.search.proofs.Laws.Round.{passed_rose, passed_still, fewer_left}
use Rattle.search.proofs.rounds.pass.Goals as goal

pub returns-then-store : goal.returns-then-store
returns-then-store c =
    let a = c.args in
    let I = c.requires.going in record {
      passed = passed_rose (graph_of a.delegations.now a.exclude) a.levels.now I.sound I.len
          c.lowest-r.result c.lowest-r.ensures.0 c.widest-row.result c.widest-row.ensures _ c.store.result c.store.ensures
          a.delegations.now.subjects a.s.known a.s.left c.meet-found.result c.minus-fresh.result c.union-all.result c.without-rest.result
          c.meet-found.ensures c.minus-fresh.ensures c.union-all.ensures c.without-rest.ensures.1 a.s.due c.union.result
          (omega (arith, c.union-all.type_inv)) I c.if-store.true c.union-due.result c.waiting-others.result c.minus.result
          c.union-due.ensures c.minus.ensures c.waiting-others.ensures c.union.ensures;
      left_bound = fewer_left a.s.left c.without-rest.result c.lowest-r.result c.lowest-r.ensures.0 c.lowest-r.ensures.1 c.without-rest.ensures.0 c.without-rest.ensures.1;
    }

pub returns : goal.returns
returns c =
    let a = c.args in
    let I = c.requires.going in record {
      passed = passed_still (graph_of a.delegations.now a.exclude) a.levels.now I.sound I.len
          c.lowest-r.result c.lowest-r.ensures.0 c.widest-row.result c.widest-row.ensures _ c.store.result c.store.ensures
          a.delegations.now.subjects a.s.known a.s.left c.meet-found.result c.minus-fresh.result c.union-all.result c.without-rest.result
          c.meet-found.ensures c.minus-fresh.ensures c.union-all.ensures c.without-rest.ensures.1 a.s.due c.union-due.result
          (omega (arith, c.union-all.type_inv)) I c.if-store.false (omega (arith, c.minus-fresh.type_inv)) c.union-due.ensures;
      left_bound = fewer_left a.s.left c.without-rest.result c.lowest-r.result c.lowest-r.ensures.0 c.lowest-r.ensures.1 c.without-rest.ensures.0 c.without-rest.ensures.1;
    }
