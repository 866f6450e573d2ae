-- The marks before i say whether their delegations have that subject and that audience.
use mathlib.Core.Path.{refl, sym, ◌∙◌}
use mathlib.Core.Bool.{false, cond}
use native.Mathlib.Omega.{arith}
use lib.ListN.{get_or, length-set}
use lib.Dec.{eqb}
use borrow.Author.Tests.{eq-eqb, ne_eqb}
use Rattle.lists.proofs.MarkLaws.{marked_more}
use Rattle.lists.proofs.mark.between.Goals as goal
use Rattle.lists.proofs.mark.between.Goals.{then-from-subject, else-from-subject}

pub loop-i-preserved : goal.loop-i-preserved
loop-i-preserved c =
    let l = c.loop-i in
    let v = l.invariant.long in
    let h = c.requires.0 in
    record {
      long = simp length-set v;
      marked = marked_more (λ k. cond (eqb (get_or c.args.subjects.now k 0) c.args.subject.0) (eqb (get_or c.args.audiences.now k 0) c.args.audience.0) false) l.on l.i c.if-from-subject.on (omega arith) l.invariant.marked
          (elim c.if-from-subject.branch [
            | then-from-subject w ↦ w.on-is ∙ rw (w.from-then-from-subject.ensures, eq-eqb _ _ (sym c.from.ensures ∙ w.if-from-subject.true)) refl
            | else-from-subject w ↦ w.on-is ∙ rw (ne_eqb _ _ w.if-from-subject.false, ne_eqb _ _ (λ e. w.if-from-subject.false (c.from.ensures ∙ e))) refl
          ]);
    }
