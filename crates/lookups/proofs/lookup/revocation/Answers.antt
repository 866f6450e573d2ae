-- What is found is the revocation with that digest.
use mathlib.Core.Path.{◌≡◌, refl, sym, ◌∙◌}
use mathlib.Core.Bool.{true, false}
use borrow.Author.Tests.{lt-ltb, le-ltb}
use Rattle.runs.specs.Members.{has}
use Rattle.tables.specs.Committed.{revocation_digests, revocation_with}
use Rattle.tables.specs.Columns.{revocation_at}
use Rattle.store.specs.Store.{committed}
use Rattle.store.proofs.ViewLaws.{revocation_found, revocation_is, revocation_fits}
use Rattle.lookups.proofs.LookLaws.{look_bad, look_absent, look_there}
use Rattle.lookups.proofs.lookup.revocation.Goals as goal

pub returns-then-digest-ne-DIGEST_LENGTH : goal.returns-then-digest-ne-DIGEST_LENGTH
returns-then-digest-ne-DIGEST_LENGTH c =
    record { answer = sym (look_bad c.args.digest.now _ (has (revocation_digests (committed c.args.store.now)) c.args.digest.now) c.if-digest-ne-DIGEST_LENGTH.true); issuer = refl; revoked = refl }

pub slice_bounds-find-end : goal.slice_bounds-find-end
slice_bounds-find-end c = sym c.args.store.now.good.revocations.digests.long

pub slice_bounds-key_at-end : goal.slice_bounds-key_at-end
slice_bounds-key_at-end c = sym c.args.store.now.good.revocations.issuer.long

pub slice_bounds-put_revocation-end : goal.slice_bounds-put_revocation-end
slice_bounds-put_revocation-end c = sym c.args.store.now.good.keys.long

pub slice_bounds-put_revocation-end-then-at-n : goal.slice_bounds-put_revocation-end-then-at-n
slice_bounds-put_revocation-end-then-at-n c = sym c.args.store.now.good.revocations.revoked

pub put_revocation-requires : goal.put_revocation-requires
put_revocation-requires c =
    revocation_fits c.args.store.now c.args.store.now.good c.find-at.result c.key_at-by.result (rw c.key_at-by.ensures) c.if-at-n.true

pub returns-then-at-n : goal.returns-then-at-n
returns-then-at-n c =
    let st = c.args.store.now in
    let d = c.args.digest.now in
    let at = c.find-at.result in
    let h = c.if-at-n.true in
    let w : revocation_with (committed st) d ≡ revocation_at st.keys.table st.revocations at.0 = revocation_is st c.args.store.now.good d at.0 c.find-at.ensures h in
    let f : has (revocation_digests (committed st)) d ≡ true = sym (revocation_found st c.args.store.now.good d at.0 c.find-at.ensures) ∙ lt-ltb at.0 st.revocations.count h in
    let e = c.key_at-by.ensures in
    let p = c.put_revocation.ensures in
    record {
      answer = rw (f, w) ((rw e at p.answer) ∙ sym (look_there d _ c.if-digest-ne-DIGEST_LENGTH.false));
      issuer = rw w (rw e at p.issuer);
      revoked = rw w p.revoked;
    }

pub returns : goal.returns
returns c =
    let st = c.args.store.now in
    let d = c.args.digest.now in
    let at = c.find-at.result in
    let f : has (revocation_digests (committed st)) d ≡ false = sym (revocation_found st c.args.store.now.good d at.0 c.find-at.ensures) ∙ le-ltb at.0 st.revocations.count c.if-at-n.false in
    record { answer = rw f (sym (look_absent d _ c.if-digest-ne-DIGEST_LENGTH.false)); issuer = refl; revoked = refl }
