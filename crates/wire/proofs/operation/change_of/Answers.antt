-- `change_of` has the definition's bytes.
use native.Mathlib.Omega.{arith}
use mathlib.Core.Path.{refl}
use borrow.Author.Tests.{ne_eqb}
use Rattle.wire.specs.Operation.{change_of}
use Rattle.wire.proofs.operation.change_of.Goals as goal

pub returns-in-0 : goal.returns-in-0
unfolding change_of
returns-in-0 c = rw c.in-0.is refl

pub returns-in-1 : goal.returns-in-1
unfolding change_of
returns-in-1 c = rw c.in-1.is refl

pub returns-in-2 : goal.returns-in-2
unfolding change_of
returns-in-2 c = rw c.in-2.is refl

pub returns-in-3 : goal.returns-in-3
unfolding change_of
returns-in-3 c = rw c.in-3.is refl

pub returns-in_default : goal.returns-in_default
unfolding change_of
returns-in_default c =
    let d = c.in_default in
    simp (ne_eqb c.args.byte 0 (omega arith), ne_eqb c.args.byte 1 (omega arith), ne_eqb c.args.byte 2 (omega arith), ne_eqb c.args.byte 3 (omega arith))
