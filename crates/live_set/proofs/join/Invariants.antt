-- `live_set::join` meets its contract. The loop's invariant: the grades of those that are no longer left stand.
use Prim.Native.Nat.{◌+◌}
use mathlib.Core.Path.{◌≡◌}
use lib.ListN.{length, get_or}
use Rattle.keyset.specs.Word.{size}
use Rattle.places.specs.Limits.{delegation_limit, revocation_limit}
use Rattle.coverage.proofs.Laws.Put.{Putting}
use Rattle.live_set.proofs.join.Given as goal

abbrev pub invariant-loop-left : goal.invariant-loop-left
invariant-loop-left l = (length l.grades ≡ delegation_limit) × Putting l.newly l.left l.target (λ d. get_or l.power d 0 + 1) l.initial.grades l.grades

abbrev pub decreases-loop-left : goal.decreases-loop-left
decreases-loop-left l = size revocation_limit l.left
