-- `answers::level_of` meets its contract: 0 is no level, and any other byte is one more than its level's rank.
use Prim.Native.Nat.{ℕ, zero, suc, ◌<◌}
use mathlib.Core.Path.{◌≡◌, refl, subst}
use native.Mathlib.Omega.{arith}
use Rattle.std.specs.Prelude.{Some}
use Rattle.rules.specs.Rows.{level_of}
use Rattle.power_levels.specs.Power.{rank_of, at_rank, level_count}
use Rattle.power_levels.specs.declared.power.Power.{Power}
use Rattle.answers.specs.Answers.{LevelIs, level, no_level}
use Rattle.answers.proofs.answer.level_of.Goals as goal

rank_at : (r : ℕ) → r < level_count → rank_of (at_rank r) ≡ r
unfolding at_rank
rank_at zero h = refl
rank_at (suc zero) h = refl
rank_at (suc (suc zero)) h = refl
rank_at (suc (suc (suc zero))) h = refl
rank_at (suc (suc (suc (suc r)))) h = absurd (omega arith)

-- a byte that is one more than a level's rank, however the rank is written
one_more : (b r : ℕ) (p : Power) → suc r ≡ b → r < level_count → p ≡ at_rank r → LevelIs (level_of b) (Some p)
unfolding level_of
one_more b r p e h q = rw (q, ← e) (subst (λ (x : ℕ). LevelIs (level_of (suc x)) (Some (at_rank r))) (rank_at r h) (level (at_rank r)))

pub returns-in-0 : goal.returns-in-0
unfolding level_of
returns-in-0 c = rw c.in-0.is no_level

pub returns-in_default : goal.returns-in_default
returns-in_default c =
    one_more c.args.byte _ c.from_rank.result (omega arith) (omega (arith, c.requires)) c.from_rank.ensures
