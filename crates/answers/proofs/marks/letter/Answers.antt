-- The letter is the byte of the level whose rank is one less.
use Prim.Native.Nat.{ℕ, pred}
use mathlib.Core.Path.{◌≡◌, ap, ◌∙◌}
use native.Mathlib.Omega.{arith}
use Rattle.power_levels.specs.Power.{byte_of, at_rank}
use Rattle.tables.specs.Columns.{power_of}
use Rattle.answers.proofs.marks.letter.Goals as goal

pub returns : goal.returns
unfolding at_rank power_of
returns c =
    let e : c.saturating_sub.result ≡ pred c.args.byte = omega (arith, c.saturating_sub.ensures) in
    c.byte.ensures ∙ ap byte_of c.from_rank.ensures ∙ ap (λ (r : ℕ). byte_of (at_rank r)) e
