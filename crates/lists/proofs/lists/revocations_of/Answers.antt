-- The revocations are marked that name the target.
use mathlib.Core.Path.{◌≡◌, refl, sym}
use native.Mathlib.Omega.{arith}
use borrow.Author.Tests.{eq-eqb, ne_eqb}
use Rattle.keyline.specs.Limits.{revocation_limit}
use Rattle.tables.specs.Columns.{revocation_at}
use Rattle.store.specs.Store.{committed}
use Rattle.store.specs.Parts.{holds}
use Rattle.lists.specs.Lists.{length_first, names, revocations_of}
use Rattle.lists.specs.Marks.{chosen_runs}
use Rattle.lists.proofs.ChosenLaws.{stand, rows_chosen}
use Rattle.lists.proofs.lists.revocations_of.Goals as goal

pub returns-then-target-ne-DIGEST_LENGTH : goal.returns-then-target-ne-DIGEST_LENGTH
unfolding length_first
returns-then-target-ne-DIGEST_LENGTH c = record { answer = rw (ne_eqb _ _ c.if-target-ne-DIGEST_LENGTH.true); out = refl }

pub slice_bounds-naming-end : goal.slice_bounds-naming-end
slice_bounds-naming-end c = sym c.args.store.now.good.revocations.revoked

pub slice_bounds-choose-end : goal.slice_bounds-choose-end
slice_bounds-choose-end c = sym c.args.store.now.good.revocations.digests.long

pub slice_bounds-write_one-end : goal.slice_bounds-write_one-end
slice_bounds-write_one-end c = sym c.args.store.now.good.revocations.digests.long

pub write_one-requires : goal.write_one-requires
write_one-requires c =
    let st = c.args.store.now in
    stand revocation_limit st.revocations.digests st.revocations.count c.args.store.now.good.revocations.digests (omega arith) c.naming-on.result c.choose-c.result c.choose-c.ensures

pub returns : goal.returns
unfolding holds length_first
returns c =
    let st = c.args.store.now in
    let x = c.args.target.now in
    let e : chosen_runs st.revocations.digests c.choose-c.result ≡ revocations_of (committed st) x =
    rows_chosen revocation_limit st.revocations.digests st.revocations.count c.args.store.now.good.revocations.digests (omega arith) c.naming-on.result c.choose-c.result c.choose-c.ensures
    (revocation_at st.keys.table st.revocations) (λ r. r.digest) (names x) c.naming-on.ensures.1 (λ i h. refl) in
    record { answer = rw (eq-eqb _ _ c.if-target-ne-DIGEST_LENGTH.false, ← e) c.write_one.ensures.answer; out = rw (← e) c.write_one.ensures.out }
