-- `search::search` meets its contract. The loop's invariant: every known root that is not left has closed words. At the end none is left, and what is
-- closed is complete (Laws/Complete.antt). What can still rise bounds the rounds.
use Prim.Native.Nat.{ℕ, suc, ◌+◌, ◌*◌, ◌^◌, ◌≤◌, ◌<◌}
use Rattle.keyset.specs.Word.{bit, size}
use Rattle.places.specs.Limits.{key_limit}
use Rattle.search.specs.Delegations.{graph_of}
use Rattle.search.specs.Rounds.{Going, room}
use Rattle.search.proofs.search.Given as goal

abbrev pub invariant-loop-left : goal.invariant-loop-left
invariant-loop-left l =
    Going (graph_of l.delegations l.exclude) l.delegations.subjects l.known l.left 0 l.levels × ((j : ℕ) → bit l.roots j ≤ bit l.known j) × (l.known < 2 ^ 64) × (l.left < 2 ^ 64)

abbrev pub decreases-loop-left : goal.decreases-loop-left
decreases-loop-left l =
    room l.levels l.known * suc key_limit + size key_limit l.left
