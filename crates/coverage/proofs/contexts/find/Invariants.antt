-- `coverage::contexts::find` meets its contract. The loop's invariant: none of the contexts before c excludes w.
use Prim.Native.Nat.{ℕ, ◌<◌}
use mathlib.Core.Path.{◌≡◌}
use lib.ListN.{get_or}
use Rattle.coverage.proofs.contexts.find.Given as goal

abbrev pub invariant-loop-c : goal.invariant-loop-c
invariant-loop-c l = ((i : ℕ) → i < l.c → get_or l.exclude i 0 ≡ l.w → ⊥)
