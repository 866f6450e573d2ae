-- `search::edges::index` meets its contract. The loop's invariant: the index of the first d delegations stands.
use Prim.Native.Nat.{◌<◌}
use mathlib.Core.Path.{sym}
use native.Mathlib.Omega.{arith}
use Rattle.places.specs.Limits.{key_limit}
use Rattle.search.proofs.Laws.Chain.{indexing_none, indexing_more}
use Rattle.search.proofs.edges.index.Goals.{After-from-u}
use Rattle.search.proofs.edges.index.Goals as goal

-- the pair of the delegation d
subject_lt : (c : After-from-u) → c.from-r.result < key_limit
subject_lt c = omega (arith, c.from-r.ensures, c.requires.2 c.loop-d.d)

issuer_lt : (c : After-from-u) → c.from-u.result < key_limit
issuer_lt c = omega (arith, c.from-u.ensures, c.requires.1 c.loop-d.d)

pub loop-d-init : goal.loop-d-init
loop-d-init c = indexing_none c.args.issuer.now c.args.subject.now

pub loop-d-preserved : goal.loop-d-preserved
loop-d-preserved c =
    let a = c.args in
    let l = c.loop-d in
    indexing_more a.issuer.now a.subject.now l.d l.issuers l.last l.earlier l.invariant c.from-r.result c.from-u.result c.with.result
    (sym c.from-r.ensures) (sym c.from-u.ensures) (subject_lt (goal.at.loop-d-preserved c).After-from-u) (issuer_lt (goal.at.loop-d-preserved c).After-from-u) (omega (arith, c.requires.0)) c.with.ensures.0 c.with.ensures.1
