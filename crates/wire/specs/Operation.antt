-- What the first byte of a request says. docs/SCRIPT.md has the same as a table.
use Rattle.std.specs.Prelude.{ℕ, Bool, true, false, cond, eqb, ltb, Option, Some, None}
use Rattle.wire.specs.declared.operation.Operation.{Operation}
use Rattle.wire.specs.declared.operation.Operation.TheVariants as operation
use Rattle.wire.specs.declared.operation.Change.TheVariants as change
use Rattle.wire.specs.declared.operation.OfState.TheVariants as state
use Rattle.wire.specs.declared.operation.OfEvaluated.TheVariants as evaluated

-- below 16: another set, or an evaluation of the set as it stands
unfoldable pub change_of : ℕ → Option Operation
change_of byte =
    cond (eqb byte 0) (Some (operation.Change change.New)) (
    cond (eqb byte 1) (Some (operation.Change change.InsertDelegation)) (
    cond (eqb byte 2) (Some (operation.Change change.InsertRevocation)) (
    cond (eqb byte 3) (Some operation.Evaluate) (
    None))))

-- below 32: questions put to the set
unfoldable pub of_state : ℕ → Option Operation
of_state byte =
    cond (eqb byte 16) (Some (operation.OfState state.Version)) (
    cond (eqb byte 17) (Some (operation.OfState state.Len)) (
    cond (eqb byte 18) (Some (operation.OfState state.IsEmpty)) (
    cond (eqb byte 19) (Some (operation.OfState state.ContainsDelegation)) (
    cond (eqb byte 20) (Some (operation.OfState state.ContainsRevocation)) (
    cond (eqb byte 21) (Some (operation.OfState state.Delegation)) (
    cond (eqb byte 22) (Some (operation.OfState state.Revocation)) (
    cond (eqb byte 23) (Some (operation.OfState state.Subjects)) (
    cond (eqb byte 24) (Some (operation.OfState state.RevocationsOf)) (
    cond (eqb byte 25) (Some (operation.OfState state.DelegationsTo)) (
    cond (eqb byte 26) (Some (operation.OfState state.Certificates)) (
    None)))))))))))

-- the rest: questions put to the evaluated set
unfoldable pub of_evaluated : ℕ → Option Operation
of_evaluated byte =
    cond (eqb byte 32) (Some (operation.OfEvaluated evaluated.PositivePower)) (
    cond (eqb byte 33) (Some (operation.OfEvaluated evaluated.EffectivePower)) (
    cond (eqb byte 34) (Some (operation.OfEvaluated evaluated.Members)) (
    cond (eqb byte 35) (Some (operation.OfEvaluated evaluated.IsLive)) (
    cond (eqb byte 36) (Some (operation.OfEvaluated evaluated.ConveyedPower)) (
    cond (eqb byte 37) (Some (operation.OfEvaluated evaluated.Standing)) (
    cond (eqb byte 38) (Some (operation.OfEvaluated evaluated.Closure)) (
    None)))))))

unfoldable pub operation_of : ℕ → Option Operation
operation_of byte = cond (ltb byte 16) (change_of byte) (cond (ltb byte 32) (of_state byte) (of_evaluated byte))

abbrev pub is_known : Option Operation → Bool
is_known (Some w) = true
is_known None = false
