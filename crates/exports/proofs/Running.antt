-- A script's run on its way to C: the numbers handed over are those of what `run` of `script` answers.
use Prim.Native.Nat.{ℕ}
use mathlib.Core.Path.{◌≡◌, sym, subst}
use mathlib.Core.List.{List}
use Rattle.keyline.specs.Refusal.{number_of, beside_of}
use Rattle.keyline.specs.declared.refusal.Refusal.{Refusal}
use Rattle.script.specs.Run.{RanAs}
use Rattle.numbers.specs.Numbers.{not_refused}
use Rattle.exports.specs.Answer.{RunIs, ran_as}
use Rattle.std.specs.Prelude.{Result, Ok, Err}

pub ran_bytes : {s o out : List ℕ} {r : Result ℕ Refusal} {n : ℕ} → RanAs s o r out → r ≡ Ok n → RunIs s o not_refused out n 0
ran_bytes {s} {o} {out} t e = ran_as (subst (λ x. RanAs s o x out) e t)

pub ran_refused : {s o out : List ℕ} {r : Result ℕ Refusal} {why : Refusal} {n b : ℕ} → RanAs s o r out → r ≡ Err why → n ≡ number_of why → b ≡ beside_of why → RunIs s o n out 0 b
ran_refused {s} {o} {out} {r} {why} {n} {b} t e f g =
    subst (λ n. RunIs s o n out 0 b) (sym f) (subst (λ k. RunIs s o (number_of why) out 0 k) (sym g) (ran_as (subst (λ x. RanAs s o x out) e t)))
