-- While `is` holds, the bytes before j agree; once it does not, some byte did not.
use mathlib.Core.Path.{◌≡◌, refl, sym, ap, ◌∙◌}
use mathlib.Core.Bool.{Bool, true, false}
use native.Mathlib.Omega.{arith}
use lib.Seq.{ext_get_or}
use Rattle.runs.specs.Bytes.{Bytes, eq_bytes}
use Rattle.runs.proofs.ByteLaws.{eq_same, eq_false}
use Rattle.hints.proofs.same.Goals as goal

told : (is : Bool) (a b : Bytes) → (is ≡ true → a ≡ b) → (is ≡ false → ¬ (a ≡ b)) → is ≡ eq_bytes a b
told true a b f g = sym (eq_same a b (f refl))
told false a b f g = sym (eq_false a b (g refl))

pub returns : goal.returns
returns c =
    let v = c.loop-j.invariant in
    let a = c.run_at-there.result.now in
    let l = c.run_at-there.ensures.len in
    told c.loop-j.is a c.args.run.now (λ e. ext_get_or 0 a c.args.run.now (omega (arith, c.requires.1)) (λ k h. v.agree e k (omega arith))) v.differ
    ∙ ap (λ (b : Bytes). eq_bytes b c.args.run.now) c.run_at-there.ensures.value
