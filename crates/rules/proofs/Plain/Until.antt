-- Rounds end where another step raises no value (`rounds_settle`).
-- Idea: each turn but the last raises the total of the values, and the total is bounded.
use Prim.Native.Nat.{ℕ, zero, suc, ◌+◌, ◌≤◌, ◌<◌}
use mathlib.Core.Bool.{cond}
use mathlib.Core.List.{List, Memᴰ}
use native.Mathlib.Omega.{arith}
use Rattle.rules.proofs.Plain.Evaluate.{total, until, rounds}
use Rattle.rules.proofs.Plain.Says.{told, says_lt}
use Rattle.rules.proofs.Plain.Lists.{total_le, total_tight}

pub record Settled {A P : Type 0} (Good : A → Type 0) (ps : List P) (val : A → P → ℕ) (step : A → A) (a : A) : Type 0 where
  pub is_good : Good a
  pub rest : (p : P) → Memᴰ p ps → val (step a) p ≤ val a p

module _ {A P : Type 0} {Good : A → Type 0} (ps : List P) (val : A → P → ℕ) (B : ℕ) (step : A → A)
    (good : (a : A) → Good a → Good (step a))
    (rises : (a : A) → Good a → (p : P) → Memᴰ p ps → val a p ≤ val (step a) p)
    (bound : (a : A) → Good a → (p : P) → Memᴰ p ps → val a p ≤ B) where
  turns : (n : ℕ) (a : A) → Good a → total (λ p. B) ps < n + total (val a) ps → Settled Good ps val step (until (λ a. total (val a) ps) step n a)
  unfolding until
  turns zero a g h = absurd (omega (arith, total_le (val a) (λ p. B) ps (bound a g)))
  turns (suc n) a g h = let b = step a in
      told (λ t. Settled Good ps val step (cond t (until (λ a. total (val a) ps) step n b) a)) (says_lt (total (val a) ps) (total (val b) ps))
      (λ l. turns n b (good a g) (omega arith))
      (λ l. record { is_good = g; rest = λ p m. total_tight (val a) (val b) ps (rises a g) (omega arith) m })

  pub rounds_settle : (a : A) → Good a → Settled Good ps val step (rounds ps val B step a)
  unfolding rounds
  rounds_settle a g = turns (suc (total (λ p. B) ps)) a g (omega arith)
