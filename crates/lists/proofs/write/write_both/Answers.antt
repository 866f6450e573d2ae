-- The second list stands behind the first.
use Prim.Native.Nat.{◌*◌}
use mathlib.Core.Path.{refl}
use native.Mathlib.Omega.{arith}
use borrow.Author.Tests.{lt-ltb, le-ltb}
use Rattle.runs.specs.Bytes.{run_length, joined}
use Rattle.lists.specs.Lists.{both_answer}
use Rattle.lists.specs.Marks.{chosen_runs}
use Rattle.lists.proofs.WriteLaws.{chosen_long, joined_chosen, behind}
use Rattle.lists.proofs.write.write_both.Goals as goal

pub returns-then-out-e : goal.returns-then-out-e
unfolding both_answer
returns-then-out-e c =
    record { answer = rw (chosen_long c.args.table.now c.args.c c.requires.0, chosen_long c.args.other.now c.args.d c.requires.1, lt-ltb _ _ c.if-out-e.true); out = refl }

pub returns : goal.returns
unfolding both_answer
returns c =
    let o = c.args.out.now in
    let a = chosen_runs c.args.table.now c.args.c in
    let b = chosen_runs c.args.other.now c.args.d in
    let n = run_length * c.args.c.count in
    let m = run_length * c.args.d.count in
    let h = c.if-out-e.false in
    record {
      answer = rw (chosen_long c.args.table.now c.args.c c.requires.0, chosen_long c.args.other.now c.args.d c.requires.1, le-ltb _ _ h);
      out = behind o (joined a) (joined b) n m c.put_runs.new.out c.put_runs-2.new.out
          (joined_chosen c.args.table.now c.args.c c.requires.0) (joined_chosen c.args.other.now c.args.d c.requires.1) (omega arith) c.put_runs.ensures c.put_runs-2.ensures;
    }
