use mathlib.Core.Path.{refl}
use borrow.Author.Tests.{lt-ltb, le-ltb}
use Rattle.lists.specs.Lists.{list_answer}
use Rattle.lists.proofs.WriteLaws.{chosen_long}
use Rattle.lists.proofs.write.write_one.Goals as goal

pub returns-then-out-n : goal.returns-then-out-n
unfolding list_answer
returns-then-out-n c =
    record { answer = rw (chosen_long c.args.table.now c.args.c c.requires, lt-ltb _ _ c.if-out-n.true); out = refl }

pub returns : goal.returns
unfolding list_answer
returns c =
    record { answer = rw (chosen_long c.args.table.now c.args.c c.requires, le-ltb _ _ c.if-out-n.false); out = c.put_runs.ensures }
