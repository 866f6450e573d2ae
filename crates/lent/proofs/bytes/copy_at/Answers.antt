-- `copy_at` puts the run into the buffer, a byte at each turn.
use mathlib.Core.Path.{◌≡◌, ◌∙◌}
use native.Mathlib.Omega.{arith}
use native.Mathlib.Numerals.{add-one}
use lib.ListN.{length, length-set}
use lib.Seq.{paste-suc, take-length}
use Rattle.lent.specs.Bytes.{put}
use Rattle.lent.proofs.bytes.copy_at.Goals as goal

pub loop-j-preserved : goal.loop-j-preserved
loop-j-preserved c =
    let l = c.loop-j in
    let s = c.args in
    (rw (l.invariant.0, add-one) (paste-suc s.out.now s.at s.src.now l.j 0 (omega arith) (omega arith)), simp length-set l.invariant.1)

pub returns : goal.returns
unfolding put
returns c =
    let s = c.args in
    let past : c.loop-j.j ≡ length s.src.now = omega arith in
    c.loop-j.invariant.0 ∙ rw (past, take-length)
