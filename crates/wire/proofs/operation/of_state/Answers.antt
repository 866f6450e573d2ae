-- `of_state` has the definition's bytes.
use native.Mathlib.Omega.{arith}
use mathlib.Core.Path.{refl}
use borrow.Author.Tests.{ne_eqb}
use Rattle.wire.specs.Operation.{of_state}
use Rattle.wire.proofs.operation.of_state.Goals as goal

pub returns-in-16 : goal.returns-in-16
unfolding of_state
returns-in-16 c = rw c.in-16.is refl

pub returns-in-17 : goal.returns-in-17
unfolding of_state
returns-in-17 c = rw c.in-17.is refl

pub returns-in-18 : goal.returns-in-18
unfolding of_state
returns-in-18 c = rw c.in-18.is refl

pub returns-in-19 : goal.returns-in-19
unfolding of_state
returns-in-19 c = rw c.in-19.is refl

pub returns-in-20 : goal.returns-in-20
unfolding of_state
returns-in-20 c = rw c.in-20.is refl

pub returns-in-21 : goal.returns-in-21
unfolding of_state
returns-in-21 c = rw c.in-21.is refl

pub returns-in-22 : goal.returns-in-22
unfolding of_state
returns-in-22 c = rw c.in-22.is refl

pub returns-in-23 : goal.returns-in-23
unfolding of_state
returns-in-23 c = rw c.in-23.is refl

pub returns-in-24 : goal.returns-in-24
unfolding of_state
returns-in-24 c = rw c.in-24.is refl

pub returns-in-25 : goal.returns-in-25
unfolding of_state
returns-in-25 c = rw c.in-25.is refl

pub returns-in-26 : goal.returns-in-26
unfolding of_state
returns-in-26 c = rw c.in-26.is refl

pub returns-in_default : goal.returns-in_default
unfolding of_state
returns-in_default c =
    let d = c.in_default in
    simp (ne_eqb c.args.byte 16 (omega arith), ne_eqb c.args.byte 17 (omega arith), ne_eqb c.args.byte 18 (omega arith), ne_eqb c.args.byte 19 (omega arith), ne_eqb c.args.byte 20 (omega arith), ne_eqb c.args.byte 21 (omega arith), ne_eqb c.args.byte 22 (omega arith), ne_eqb c.args.byte 23 (omega arith), ne_eqb c.args.byte 24 (omega arith), ne_eqb c.args.byte 25 (omega arith), ne_eqb c.args.byte 26 (omega arith))
