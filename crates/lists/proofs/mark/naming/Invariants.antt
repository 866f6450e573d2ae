-- The marks before i say whether their revocations name the target.
use Prim.Native.Nat.{ℕ, ◌<◌}
use mathlib.Core.Path.{◌≡◌}
use mathlib.Core.Bool.{false}
use lib.ListN.{length, get_or}
use Rattle.runs.specs.Bytes.{run_at, eq_bytes}
use Rattle.keyline.specs.Limits.{revocation_limit}
use Rattle.lists.proofs.mark.naming.Given as goal

abbrev pub invariant-loop-i : goal.invariant-loop-i
invariant-loop-i l = record {
  long : length l.on ≡ revocation_limit;
  marked : (k : ℕ) → k < l.i → get_or l.on k false ≡ eq_bytes (run_at l.revoked k) l.target;
}
