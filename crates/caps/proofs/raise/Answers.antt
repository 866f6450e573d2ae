-- `caps::raise` meets its contract. The loop's invariant: the caps of those that are no longer left are raised.
use Prim.Native.Nat.{ℕ, ◌+◌, min, max}
use mathlib.Core.Path.{◌≡◌, sym, ap, ◌∙◌}
use native.Mathlib.Omega.{arith}
use lib.ListN.{get_or}
use Rattle.search.specs.Levels.{height}
use Rattle.coverage.proofs.Laws.Put.{putting_all, putting_more, left_less}
use Rattle.caps.proofs.raise.Invariants.{lift}
use Rattle.caps.proofs.raise.Goals as goal

pub loop-left-smaller : goal.loop-left-smaller
loop-left-smaller c =
    left_less c.args.members c.loop-left.left c.without-left.result c.lowest-j.result c.lowest-j.ensures.1 c.without-left.ensures.0 c.without-left.ensures.1 c.lowest-j.ensures.0

pub loop-left-preserved : goal.loop-left-preserved
loop-left-preserved c =
    let s = c.args.delegations.now in
    let found = c.args.found.now in
    let power = c.args.facts.now.power in
    let l = c.loop-left in
    let d = c.from-d.result in
    let level : c.level-level.result ≡ height found (get_or s.subject.now d 0) (get_or s.issuer.now d 0) =
    c.level-level.ensures ∙ ap (λ (z : ℕ). height found z c.from-in-loop-left.result) c.from.ensures
    ∙ ap (λ (z : ℕ). height found (get_or s.subject.now d 0) z) c.from-in-loop-left.ensures in
    let v : c.max.result ≡ lift s.issuer.now s.subject.now power s.grades.now found d =
    c.max.ensures ∙ ap (max (get_or s.grades.now d 0)) (c.min.ensures ∙ ap (min (get_or power d 0 + 1)) level) in
    let named = c.requires.within c.lowest-j.result (l.invariant.1.left_in.within c.lowest-j.result c.lowest-j.ensures.1) in
    let P = putting_more l.left c.without-left.result c.lowest-j.result l.invariant.1 c.lowest-j.ensures.1 c.without-left.ensures.0 c.without-left.ensures.1
    d _ (sym c.from-d.ensures) (omega (arith, c.from-d.ensures, named, l.invariant.0)) v in
    (omega (arith, P.same), P)

pub returns : goal.returns
returns c = putting_all c.loop-left-test.false c.loop-left.invariant.1
