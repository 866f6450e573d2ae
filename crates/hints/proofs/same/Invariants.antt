-- While `is` holds, the bytes before j agree; once it does not, some byte did not.
use Prim.Native.Nat.{ℕ, ◌<◌}
use mathlib.Core.Path.{◌≡◌}
use mathlib.Core.Bool.{true, false}
use lib.ListN.{get_or}
use Rattle.hints.proofs.same.Given as goal

abbrev pub invariant-loop-j : goal.invariant-loop-j
invariant-loop-j l = record {
  agree : l.is ≡ true → (k : ℕ) → k < l.j → get_or l.there k 0 ≡ get_or l.run k 0;
  differ : l.is ≡ false → ¬ (l.there ≡ l.run);
}
