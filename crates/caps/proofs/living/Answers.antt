-- `caps::living` meets its contract. The loop's invariant: of the first j revocations, w has those that name a live covered delegation.
use Prim.Native.Nat.{ℕ, ◌<◌}
use mathlib.Core.Path.{sym, subst}
use native.Mathlib.Omega.{arith}
use lib.ListN.{get_or}
use Rattle.coverage.proofs.Laws.Fill.{below_none, below_more, below_skip}
use Rattle.caps.proofs.living.Goals.{
  then-d-n+then-excluded-d-ne0+then-grades-d-ne0,
  else-d-n,
  else-d-n-via-then-d-n+then-excluded-d-ne0+else-grades-d-ne0,
  else-d-n-via-then-d-n+else-excluded-d-ne0,
  else-d-n-via-else-d-n,
}
use Rattle.caps.proofs.living.Goals as goal

pub loop-j-init : goal.loop-j-init
loop-j-init c = below_none _

pub loop-j-preserved : goal.loop-j-preserved
loop-j-preserved c =
    let a = c.args in
    let l = c.loop-j in
    let e = c.from-d.ensures in
    elim c.if-d-n.branch [
      | then-d-n+then-excluded-d-ne0+then-grades-d-ne0 w ↦ rw w.w-is
          (below_more l.j l.invariant w.with-w.ensures.0 w.with-w.ensures.1
          (record {
            held = omega (arith, e, w.if-d-n.true);
            covered = subst (λ (z : ℕ). 0 < get_or a.excluded.now z 0) e (omega (arith, w.if-excluded-d-ne0.true));
            live = subst (λ (z : ℕ). 0 < get_or a.grades.now z 0) e (omega (arith, w.if-grades-d-ne0.true));
          }))
      | else-d-n w ↦ rw w.w-is
          (below_skip l.j l.invariant
          (elim w.else-d-n.branch [
            | else-d-n-via-then-d-n+then-excluded-d-ne0+else-grades-d-ne0 v ↦
                λ o. let z = subst (λ (z : ℕ). 0 < get_or a.grades.now z 0) (sym e) o.live in omega (arith, v.if-grades-d-ne0.false)
            | else-d-n-via-then-d-n+else-excluded-d-ne0 v ↦
                λ o. let z = subst (λ (z : ℕ). 0 < get_or a.excluded.now z 0) (sym e) o.covered in omega (arith, v.if-excluded-d-ne0.false)
            | else-d-n-via-else-d-n v ↦ λ o. omega (arith, o.held, e, v.if-d-n.false)
          ]))
    ]
