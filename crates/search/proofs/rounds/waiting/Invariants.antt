-- `search::rounds::waiting` meets its contract. The loop's invariant: of the roots that are no longer left, w has those over which r stands.
use Rattle.keyset.specs.Word.{size}
use Rattle.places.specs.Limits.{key_limit}
use Rattle.search.specs.Levels.{On}
use Rattle.search.proofs.Laws.Sets.{Gathered}
use Rattle.search.proofs.rounds.waiting.Given as goal

abbrev pub invariant-loop-left : goal.invariant-loop-left
invariant-loop-left l = Gathered (λ q. On l.levels 0 q l.r) l.roots l.left l.w

abbrev pub decreases-loop-left : goal.decreases-loop-left
decreases-loop-left l = size key_limit l.left
