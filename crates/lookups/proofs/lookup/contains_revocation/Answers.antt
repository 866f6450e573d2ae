use mathlib.Core.Path.{sym, ap}
use borrow.Author.Tests.{eq-eqb, ne_eqb}
use Rattle.store.proofs.ViewLaws.{revocation_found}
use Rattle.lookups.specs.Lookup.{contains_answer}
use Rattle.lookups.proofs.lookup.contains_revocation.Goals as goal
use Rattle.std.specs.Prelude.{Ok}

pub returns-then-digest-ne-DIGEST_LENGTH : goal.returns-then-digest-ne-DIGEST_LENGTH
unfolding contains_answer
returns-then-digest-ne-DIGEST_LENGTH c = rw (ne_eqb _ _ c.if-digest-ne-DIGEST_LENGTH.true)

pub slice_bounds-find-end : goal.slice_bounds-find-end
slice_bounds-find-end c = sym c.args.store.now.good.revocations.digests.long

pub returns : goal.returns
unfolding contains_answer
returns c =
    rw (eq-eqb _ _ c.if-digest-ne-DIGEST_LENGTH.false) (ap Ok (revocation_found c.args.store.now c.args.store.now.good c.args.digest.now c.find-at.result.0 c.find-at.ensures))
