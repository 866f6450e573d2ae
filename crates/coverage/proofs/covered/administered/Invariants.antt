-- `coverage::covered::administered` meets its contract. The loop's invariant: of the subjects that are no longer left, r has those that a key of w administers.
use Rattle.keyset.specs.Word.{size}
use Rattle.places.specs.Limits.{key_limit}
use Rattle.rules.specs.Rules.{Admin}
use Rattle.search.specs.Levels.{word}
use Rattle.search.proofs.Laws.Sets.{Gathered}
use Rattle.coverage.specs.Coverage.{Shared}
use Rattle.coverage.proofs.covered.administered.Given as goal

abbrev pub invariant-loop-left : goal.invariant-loop-left
invariant-loop-left l = Gathered (λ s. Shared (word l.found s Admin) l.w) l.subjects l.left l.r

abbrev pub decreases-loop-left : goal.decreases-loop-left
decreases-loop-left l = size key_limit l.left
