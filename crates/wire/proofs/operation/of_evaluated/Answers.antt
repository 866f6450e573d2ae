-- `of_evaluated` has the definition's bytes.
use native.Mathlib.Omega.{arith}
use mathlib.Core.Path.{refl}
use borrow.Author.Tests.{ne_eqb}
use Rattle.wire.specs.Operation.{of_evaluated}
use Rattle.wire.proofs.operation.of_evaluated.Goals as goal

pub returns-in-32 : goal.returns-in-32
unfolding of_evaluated
returns-in-32 c = rw c.in-32.is refl

pub returns-in-33 : goal.returns-in-33
unfolding of_evaluated
returns-in-33 c = rw c.in-33.is refl

pub returns-in-34 : goal.returns-in-34
unfolding of_evaluated
returns-in-34 c = rw c.in-34.is refl

pub returns-in-35 : goal.returns-in-35
unfolding of_evaluated
returns-in-35 c = rw c.in-35.is refl

pub returns-in-36 : goal.returns-in-36
unfolding of_evaluated
returns-in-36 c = rw c.in-36.is refl

pub returns-in-37 : goal.returns-in-37
unfolding of_evaluated
returns-in-37 c = rw c.in-37.is refl

pub returns-in-38 : goal.returns-in-38
unfolding of_evaluated
returns-in-38 c = rw c.in-38.is refl

pub returns-in_default : goal.returns-in_default
unfolding of_evaluated
returns-in_default c =
    let d = c.in_default in
    simp (ne_eqb c.args.byte 32 (omega arith), ne_eqb c.args.byte 33 (omega arith), ne_eqb c.args.byte 34 (omega arith), ne_eqb c.args.byte 35 (omega arith), ne_eqb c.args.byte 36 (omega arith), ne_eqb c.args.byte 37 (omega arith), ne_eqb c.args.byte 38 (omega arith))
