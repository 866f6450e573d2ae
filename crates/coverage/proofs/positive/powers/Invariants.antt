-- `coverage::positive::powers` meets its contract. The loop's invariant: the grades of the first d delegations stand.
use Prim.Native.Nat.{◌+◌}
use mathlib.Core.Path.{◌≡◌}
use lib.ListN.{get_or}
use Rattle.coverage.specs.Arrays.{Filled}
use Rattle.coverage.proofs.positive.powers.Given as goal

abbrev pub invariant-loop-d : goal.invariant-loop-d
invariant-loop-d l = Filled l.d (λ i v. v ≡ get_or l.power i 0 + 1) l.grades
