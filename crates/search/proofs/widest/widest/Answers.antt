-- `search::widest::widest` meets its contract. The loop's invariant is the walk's (Laws/Walk.antt); a turn expands a key or ends a level.
use Prim.Native.Nat.{ℕ, ◌-◌, suc, min}
use mathlib.Core.Path.{◌≡◌, sym, ap, ◌∙◌, subst}
use native.Mathlib.Omega.{arith}
use lib.ListN.{get_or}
use Rattle.keyset.specs.Word.{bit}
use Rattle.keyset.proofs.Laws.{size_le}
use Rattle.places.specs.Limits.{key_limit}
use Rattle.search.specs.Graph.{Graph}
use Rattle.search.specs.Index.{indexed_count}
use Rattle.search.specs.Delegations.{graph_of}
use Rattle.search.specs.Walk.{In}
use Rattle.search.proofs.Laws.Above.{one_less}
use Rattle.search.proofs.Laws.Sets.{is_in, not_in}
use Rattle.search.proofs.Laws.Grow.{grown_set}
use Rattle.search.proofs.Laws.Walk.{Walk, walk_start, row_excluded, pending, walk_bottom, walk_down, walk_settle, settles_more, walk_end}
use Rattle.search.proofs.Laws.Lent.{ready_of}
use Rattle.search.proofs.widest.widest.Goals.{After-lowest-u, After-minus-w, Start}
use Rattle.search.proofs.widest.widest.Goals as goal

abbrev gr : Start → Graph
gr c = graph_of c.args.delegations.now c.args.exclude

-- the walk, at the level that is under way
here : (c : After-minus-w)
    → Walk (graph_of c.args.delegations.now c.args.exclude) c.args.r c.args.levels.now c.loop-above.buckets c.union-active.result c.loop-above.settled (suc (c.loop-above.above - 1))
here c =
    subst (λ (n : ℕ). Walk (graph_of c.args.delegations.now c.args.exclude) c.args.r c.args.levels.now c.loop-above.buckets c.union-active.result c.loop-above.settled n)
    (one_less c.loop-above.above c.loop-above-test.true) c.loop-above.invariant

-- what is left to expand there
left_is : (c : After-minus-w) (j : ℕ)
    → bit c.minus-w.result j ≡ min (bit (get_or c.loop-above.buckets (c.loop-above.above - 1) 0) j) (bit c.union-active.result j) - bit c.loop-above.settled j
left_is c j = c.minus-w.ensures j ∙ ap (λ (z : ℕ). z - bit c.loop-above.settled j) (c.meet.ensures j)

-- the key that is expanded
next-key : (c : After-lowest-u)
    → In c.loop-above.buckets (c.loop-above.above - 1) c.lowest-u.result × (bit c.union-active.result c.lowest-u.result ≡ 1) × (bit c.loop-above.settled c.lowest-u.result ≡ 0)
next-key c =
    pending (graph_of c.args.delegations.now c.args.exclude) c.args.r c.args.levels.now c.loop-above.buckets c.union-active.result c.loop-above.settled (c.loop-above.above - 1) (subst (λ (n : ℕ). Walk (graph_of c.args.delegations.now c.args.exclude) c.args.r c.args.levels.now c.loop-above.buckets c.union-active.result c.loop-above.settled n)
    (one_less c.loop-above.above c.loop-above-test.true) c.loop-above.invariant)
    c.minus-w.result c.lowest-u.result (λ j. c.minus-w.ensures j ∙ ap (λ (z : ℕ). z - bit c.loop-above.settled j) (c.meet.ensures j)) c.lowest-u.ensures.1

pub returns-then-has : goal.returns-then-has
returns-then-has c =
    row_excluded (gr (goal.at.returns-then-has c).Start) c.args.r c.args.levels.now (is_in c.args.exclude c.args.r c.has.result c.has.ensures c.if-has.true)

pub loop-above-init : goal.loop-above-init
loop-above-init c =
    let a = c.args in
    walk_start (gr (goal.at.loop-above-init c).Start) a.r a.levels.now c.only.result c.union-active.result
    (not_in a.exclude a.r c.has.result c.has.ensures c.if-has.false) c.only.ensures.0 c.only.ensures.1

pub loop-above-smaller-then-w-ne0 : goal.loop-above-smaller-then-w-ne0
loop-above-smaller-then-w-ne0 c =
    let p = next-key (goal.at.loop-above-smaller-then-w-ne0 c).After-lowest-u in
    omega (
      arith,
      settles_more (gr (goal.at.loop-above-smaller-then-w-ne0 c).Start) c.args.r c.args.levels.now c.loop-above.buckets c.union-active.result c.loop-above.settled (c.loop-above.above - 1) (here (goal.at.loop-above-smaller-then-w-ne0 c).After-minus-w)
          c.lowest-u.result c.with-settled.result _ _ c.lowest-u.ensures.0 p.0 p.1 p.2 c.with-settled.ensures.0 c.with-settled.ensures.1 c.requires.sound
          c.relax_edges.ensures c.relax_members.ensures,
      size_le key_limit c.with-settled.result,
    )

pub loop-above-preserved-then-w-ne0 : goal.loop-above-preserved-then-w-ne0
loop-above-preserved-then-w-ne0 c =
    let p = next-key (goal.at.loop-above-preserved-then-w-ne0 c).After-lowest-u in
    subst (λ (n : ℕ). Walk (gr (goal.at.loop-above-preserved-then-w-ne0 c).Start) c.args.r c.args.levels.now c.relax_members.new.buckets c.union-active.result c.with-settled.result n)
    (sym (one_less c.loop-above.above c.loop-above-test.true))
    (walk_settle (gr (goal.at.loop-above-preserved-then-w-ne0 c).Start) c.args.r c.args.levels.now c.loop-above.buckets c.union-active.result c.loop-above.settled (c.loop-above.above - 1) (here (goal.at.loop-above-preserved-then-w-ne0 c).After-minus-w)
    c.lowest-u.result c.with-settled.result _ _ c.lowest-u.ensures.0 p.0 p.1 p.2 c.with-settled.ensures.0 c.with-settled.ensures.1 c.requires.sound
    c.relax_edges.ensures c.relax_members.ensures)

pub loop-above-preserved-then-v-gt0 : goal.loop-above-preserved-then-v-gt0
loop-above-preserved-then-v-gt0 c =
    let l = c.loop-above in
    walk_down (gr (goal.at.loop-above-preserved-then-v-gt0 c).Start) c.args.r c.args.levels.now l.buckets c.union-active.result l.settled (l.above - 1) (here (goal.at.loop-above-preserved-then-v-gt0 c).After-minus-w) c.minus-w.result (left_is (goal.at.loop-above-preserved-then-v-gt0 c).After-minus-w)
    c.if-w-ne0.false (l.above - 1 - 1) _ (one_less (l.above - 1) c.if-v-gt0.true)
    (grown_set l.buckets (l.above - 1 - 1) (get_or l.buckets (l.above - 1) 0) c.union.result (omega (arith, l.invariant.len, l.invariant.above_le)) c.union.ensures)

pub loop-above-preserved : goal.loop-above-preserved
loop-above-preserved c =
    let l = c.loop-above in
    walk_bottom (gr (goal.at.loop-above-preserved c).Start) c.args.r c.args.levels.now l.buckets c.union-active.result l.settled (l.above - 1) (here (goal.at.loop-above-preserved c).After-minus-w) c.minus-w.result (left_is (goal.at.loop-above-preserved c).After-minus-w)
    c.if-w-ne0.false (omega (arith, c.if-v-gt0.false))

pub returns : goal.returns
returns c =
    let a = c.args in
    let l = c.loop-above in
    let e : l.above ≡ 0 = omega arith in
    walk_end (gr (goal.at.returns c).Start) a.r a.levels.now l.buckets c.union-active.result l.settled
    (subst (λ (n : ℕ). Walk (gr (goal.at.returns c).Start) a.r a.levels.now l.buckets c.union-active.result l.settled n) e l.invariant)
    (indexed_count a.delegations.now.edges.now.last) a.delegations.now.edges.now.issuers a.delegations.now.edges.now.last a.delegations.now.edges.now.earlier a.delegations.now.subjects (ready_of c.args.delegations.now c.args.exclude) c.requires.sound c.union-active.ensures
