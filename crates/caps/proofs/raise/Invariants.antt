-- `caps::raise` meets its contract. The loop's invariant: the caps of those that are no longer left are raised.
use Prim.Native.Nat.{ℕ, ◌+◌, min, max}
use mathlib.Core.Path.{◌≡◌}
use mathlib.Core.List.{List}
use lib.ListN.{length, get_or}
use Rattle.keyset.specs.Word.{size}
use Rattle.places.specs.Limits.{delegation_limit, revocation_limit}
use Rattle.search.specs.Levels.{height}
use Rattle.coverage.proofs.Laws.Put.{Putting}
use Rattle.caps.proofs.raise.Given as goal

-- what d's cap is raised to
abbrev pub lift : List ℕ → List ℕ → List ℕ → List ℕ → List ℕ → ℕ → ℕ
lift issuer subject power grades found d = max (get_or grades d 0) (min (get_or power d 0 + 1) (height found (get_or subject d 0) (get_or issuer d 0)))

abbrev pub invariant-loop-left : goal.invariant-loop-left
invariant-loop-left l =
    (length l.next ≡ delegation_limit) × Putting l.members l.left l.facts.target (lift l.delegations.issuer.now l.delegations.subject.now l.facts.power l.delegations.grades.now l.found) l.initial.next l.next

abbrev pub decreases-loop-left : goal.decreases-loop-left
decreases-loop-left l = size revocation_limit l.left
