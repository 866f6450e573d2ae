-- `live_set::eligibles` meets its contract. The loop's invariant: of the first j revocations, w has those that name an eligible delegation.
use native.Mathlib.Omega.{arith}
use Rattle.coverage.proofs.Laws.Fill.{below_none, below_more, below_skip}
use Rattle.live_set.proofs.Laws.Live.{open_says}
use Rattle.live_set.proofs.eligibles.Goals.{then-d-n+then-eligible, else-d-n, else-d-n-via-then-d-n+else-eligible, else-d-n-via-else-d-n}
use Rattle.live_set.proofs.eligibles.Goals as goal

pub loop-j-init : goal.loop-j-init
loop-j-init c = below_none _

pub loop-j-preserved : goal.loop-j-preserved
loop-j-preserved c =
    let a = c.args in
    let l = c.loop-j in
    elim c.if-d-n.branch [
      | then-d-n+then-eligible w ↦ rw w.w-is
          (below_more l.j l.invariant w.with-w.ensures.0 w.with-w.ensures.1
          ((open_says a.target.now a.n a.issuer.now a.audience.now a.subject.now a.revokers.now a.excluded.now l.j c.from-d.result w.from.result w.from-then-d-n.result w.from-then-d-n-2.result c.from-d.ensures w.if-d-n.true
          w.from.ensures w.from-then-d-n.ensures w.from-then-d-n-2.ensures w.eligible.ensures).yes w.if-eligible.true))
      | else-d-n w ↦ rw w.w-is
          (below_skip l.j l.invariant
          (elim w.else-d-n.branch [
            | else-d-n-via-then-d-n+else-eligible v ↦
                (open_says a.target.now a.n a.issuer.now a.audience.now a.subject.now a.revokers.now a.excluded.now l.j c.from-d.result v.from.result v.from-then-d-n.result v.from-then-d-n-2.result c.from-d.ensures v.if-d-n.true
                v.from.ensures v.from-then-d-n.ensures v.from-then-d-n-2.ensures v.eligible.ensures).no v.if-eligible.false
            | else-d-n-via-else-d-n v ↦ λ o. omega (arith, o.held, c.from-d.ensures, v.if-d-n.false)
          ]))
    ]
