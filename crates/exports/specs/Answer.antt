-- What C is handed of a script's run, as specs/Numbers of `numbers` has it for payloads. Rests on that and on `script`.
use Rattle.std.specs.Prelude.{ℕ, List, Result, Ok, Err}
use Rattle.keyline.specs.Refusal.{number_of, beside_of}
use Rattle.numbers.specs.Numbers.{not_refused}
use Rattle.script.specs.Run.{RanAs}
use Rattle.keyline.specs.declared.refusal.Refusal.{Refusal}

-- A script's run: the refusal's number, the value beside it and the number of bytes written, from what `run` of `script` answers. The
-- answers are those of `RanAs`, which says them request by request.
abbrev pub run_number : Result ℕ Refusal → ℕ
run_number (Ok n) = not_refused
run_number (Err r) = number_of r

abbrev pub run_beside : Result ℕ Refusal → ℕ
run_beside (Ok n) = 0
run_beside (Err r) = beside_of r

abbrev pub run_used : Result ℕ Refusal → ℕ
run_used (Ok n) = n
run_used (Err r) = 0

-- script and answers; then the number, the answers afterwards, the bytes used, and the value beside
pub data RunIs (script answers : List ℕ) : ℕ → List ℕ → ℕ → ℕ → Type 0 where
  ran_as : {r : Result ℕ Refusal} {out : List ℕ} → RanAs script answers r out → RunIs script answers (run_number r) out (run_used r) (run_beside r)
