-- `?` hands a refusal on as it is: its From gives back what it was given.
use mathlib.Core.Path.{◌≡◌, ap}
use Rattle.std.specs.Prelude.{Result, Ok, Err, IsErrAnd}
use Rattle.keyline.specs.declared.refusal.Refusal.{Refusal}

pub handed_on : {A : Type 0} (r : Result A Refusal) (why : Refusal) → IsErrAnd r (λ e. e ≡ why) → r ≡ Err why
handed_on (Ok a) why h = absurd h
handed_on (Err e) why h = ap Err h
