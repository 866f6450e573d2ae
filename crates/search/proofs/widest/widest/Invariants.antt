-- `search::widest::widest` meets its contract. The loop's invariant is the walk's (Laws/Walk.antt); a turn expands a key or ends a level.
use Prim.Native.Nat.{◌+◌, ◌-◌}
use Rattle.keyset.specs.Word.{size}
use Rattle.places.specs.Limits.{key_limit}
use Rattle.search.specs.Delegations.{graph_of}
use Rattle.search.proofs.Laws.Walk.{Walk}
use Rattle.search.proofs.widest.widest.Given as goal

abbrev pub invariant-loop-above : goal.invariant-loop-above
invariant-loop-above l =
    Walk (graph_of l.delegations l.exclude) l.r l.levels l.buckets l.active l.settled l.above

abbrev pub decreases-loop-above : goal.decreases-loop-above
decreases-loop-above l =
    l.above + (key_limit - size key_limit l.settled)
