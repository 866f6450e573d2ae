-- `search::widest::relax_edges` meets its contract. The loop's invariant: the pair's delegations from next on are relaxed, and next is one of the pair's, or 0.
use Prim.Native.Nat.{ℕ, ◌<◌, ◌-◌}
use mathlib.Core.Path.{sym, subst}
use native.Mathlib.Omega.{arith}
use Rattle.places.specs.Limits.{delegation_limit}
use Rattle.search.specs.Graph.{Graph}
use Rattle.search.specs.Delegations.{graph_of}
use Rattle.search.specs.Index.{Last, indexed_count}
use Rattle.search.proofs.Laws.Above.{one_less}
use Rattle.search.proofs.Laws.Chain.{chaining_start, chaining_place, chaining_more, chaining_less}
use Rattle.search.proofs.Laws.Lent.{ready_of}
use Rattle.search.proofs.widest.relax_edges.Goals.{In-loop-next, Start}
use Rattle.search.proofs.widest.relax_edges.Goals as goal

abbrev gr : Start → Graph
gr c = graph_of c.args.delegations.now c.args.exclude

place : (c : In-loop-next) → c.loop-next.next - 1 < delegation_limit
place c =
    chaining_place (graph_of c.args.delegations.now c.args.exclude) c.args.r c.args.u c.args.v c.args.buckets.now c.loop-next.buckets c.loop-next.next (c.loop-next.next - 1)
    c.loop-next.invariant (one_less c.loop-next.next c.loop-next-test.true)

pub loop-next-init : goal.loop-next-init
loop-next-init c =
    let a = c.args in
    let R = (ready_of c.args.delegations.now c.args.exclude) in
    chaining_start (gr (goal.at.loop-next-init c).Start) a.r a.u a.v a.buckets.now c.from-next.result R (omega arith)
    (subst (λ (z : ℕ). Last a.delegations.now.issuer.now a.delegations.now.subject.now (indexed_count a.delegations.now.edges.now.last) a.r a.u z) (sym c.from-next.ensures) (R.indexed.start a.r a.u c.requires.0 c.requires.1))

pub bounds-grades-d : goal.bounds-grades-d
bounds-grades-d c = place (goal.at.bounds-grades-d c).In-loop-next

pub bounds-audience-d : goal.bounds-audience-d
bounds-audience-d c = place (goal.at.bounds-audience-d c).In-loop-next

pub bounds-edges-d : goal.bounds-edges-d
bounds-edges-d c = place (goal.at.bounds-edges-d c).In-loop-next

pub loop-next-smaller : goal.loop-next-smaller
loop-next-smaller c =
    chaining_less (gr (goal.at.loop-next-smaller c).Start) c.args.r c.args.u c.args.v c.args.buckets.now c.loop-next.buckets c.loop-next.next (c.loop-next.next - 1)
    c.loop-next.invariant (one_less c.loop-next.next c.loop-next-test.true) _ c.from-next-in-loop-next.result c.from-next-in-loop-next.ensures c.relax.ensures

pub loop-next-preserved : goal.loop-next-preserved
loop-next-preserved c =
    chaining_more (gr (goal.at.loop-next-preserved c).Start) c.args.r c.args.u c.args.v c.args.buckets.now c.loop-next.buckets c.loop-next.next (c.loop-next.next - 1)
    c.loop-next.invariant (one_less c.loop-next.next c.loop-next-test.true) _ c.from-next-in-loop-next.result c.from-next-in-loop-next.ensures c.relax.ensures
