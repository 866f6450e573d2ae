-- `coverage::positive::subjects` meets its contract. The loop's invariant: w has the subjects of the first d delegations.
use mathlib.Core.Path.{◌≡◌}
use lib.ListN.{get_or}
use Rattle.search.specs.Sets.{Word}
use Rattle.coverage.specs.Arrays.{Any}
use Rattle.coverage.proofs.positive.subjects.Given as goal

abbrev pub invariant-loop-d : goal.invariant-loop-d
invariant-loop-d l = Word l.w (Any l.d (λ j k. get_or l.subject j 0 ≡ k))
