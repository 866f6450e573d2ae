-- `facts::targets` meets its contract. The loop's invariant: the first j entries are the places of the first j runs.
use mathlib.Core.Path.{◌≡◌}
use lib.ListN.{length}
use Rattle.keyline.specs.Limits.{revocation_limit}
use Rattle.answers.specs.Facts.{Targets}
use Rattle.answers.proofs.facts.targets.Given as goal

abbrev pub invariant-loop-j : goal.invariant-loop-j
invariant-loop-j l = record {
  long : length l.target ≡ revocation_limit;
  done : Targets l.digests l.n l.revoked l.j l.target;
}
