-- The marks before i say whether their revocations name the target.
use native.Mathlib.Omega.{arith}
use lib.ListN.{length-set}
use Rattle.runs.specs.Bytes.{run_at, eq_bytes}
use Rattle.lists.proofs.MarkLaws.{marked_more}
use Rattle.lists.proofs.mark.naming.Goals as goal

pub loop-i-preserved : goal.loop-i-preserved
loop-i-preserved c =
    let l = c.loop-i in
    let v = l.invariant.long in
    let h = c.requires.0 in
    record {
      long = simp length-set v;
      marked = marked_more (λ k. eq_bytes (run_at c.args.revoked.now k) c.args.target.now) l.on l.i c.same_at.result (omega arith) l.invariant.marked c.same_at.ensures;
    }
