-- `coverage::covered::revokers` meets its contract. The loop's invariant: the words stand for the first j revocations.
use mathlib.Core.Path.{sym}
use native.Mathlib.Omega.{arith}
use Rattle.coverage.proofs.Laws.Cover.{revokers_none, revokers_more, revokers_skip}
use Rattle.coverage.proofs.covered.revokers.Goals as goal
use Rattle.coverage.proofs.covered.revokers.Goals.{then-d-n, else-d-n}

pub loop-j-init : goal.loop-j-init
loop-j-init c = (revokers_none c.args.revoker.now c.args.target.now c.args.n)

pub loop-j-preserved : goal.loop-j-preserved
loop-j-preserved c =
    let a = c.args in
    let l = c.loop-j in
    elim c.if-d-n.branch [
      | then-d-n w ↦
          rw w.words-is
          (revokers_more a.revoker.now a.target.now l.j a.n l.words l.invariant c.from-d.result w.from.result w.with.result
          (sym c.from-d.ensures) (sym w.from.ensures) (omega (arith, w.if-d-n.true, c.requires.1)) w.with.ensures.0 w.with.ensures.1)
      | else-d-n w ↦
          rw w.words-is
          (revokers_skip a.revoker.now a.target.now l.j a.n l.words l.invariant (omega (arith, c.from-d.ensures, w.if-d-n.false)))
    ]
