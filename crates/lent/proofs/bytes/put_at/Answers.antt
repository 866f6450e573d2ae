-- `put_at` leaves the run put where it fits, and the buffer as it was where it does not.
use Prim.Native.Nat.{◌+◌, ◌<◌}
use mathlib.Core.Path.{sym, ◌∙◌}
use native.Mathlib.Omega.{arith}
use lib.ListN.{length}
use borrow.Author.Tests.{lt-leb}
use Rattle.lent.specs.Bytes.{put_within}
use Rattle.lent.proofs.Fronts.{put_within_lem}
use Rattle.lent.proofs.bytes.put_at.Goals as goal
use Rattle.lent.proofs.bytes.put_at.Goals.{else-src-out-via-then-src-out+else-at-out, else-src-out-via-else-src-out}

pub returns-then-at-out : goal.returns-then-at-out
returns-then-at-out c =
    let a = c.args in
    c.copy_at.ensures ∙ sym (put_within_lem a.out.now a.src.now a.at (omega arith))

pub returns-else-src-out : goal.returns-else-src-out
unfolding put_within
returns-else-src-out c =
    let a = c.args in
    let h : length a.out.now < a.at + length a.src.now =
    elim c.else-src-out.branch [ else-src-out-via-then-src-out+else-at-out w ↦ omega arith | else-src-out-via-else-src-out w ↦ omega arith ] in
    simp (lt-leb _ _ h)
