-- What is found is the delegation with that digest.
use mathlib.Core.Path.{◌≡◌, refl, sym, ◌∙◌}
use mathlib.Core.Bool.{true, false}
use borrow.Author.Tests.{lt-ltb, le-ltb}
use Rattle.runs.specs.Members.{has}
use Rattle.tables.specs.Committed.{delegation_digests, delegation_with}
use Rattle.tables.specs.Columns.{delegation_at}
use Rattle.store.specs.Store.{committed}
use Rattle.store.proofs.ViewLaws.{delegation_found, delegation_is, row_fits}
use Rattle.lookups.proofs.LookLaws.{look_bad, look_absent, look_there}
use Rattle.lookups.proofs.lookup.delegation.Goals as goal

-- what the parts say, of the delegation that they are the parts of
said : {A B : Type 0} (g h : A) (P : A → B → Type 0) (r : B) → g ≡ h → P h r → P g r
said g h P r e p = rw e p

pub returns-then-digest-ne-DIGEST_LENGTH : goal.returns-then-digest-ne-DIGEST_LENGTH
returns-then-digest-ne-DIGEST_LENGTH c =
    record { answer = sym (look_bad c.args.digest.now _ (has (delegation_digests (committed c.args.store.now)) c.args.digest.now) c.if-digest-ne-DIGEST_LENGTH.true); issuer = refl; payload = refl }

pub slice_bounds-find-end : goal.slice_bounds-find-end
slice_bounds-find-end c = sym c.args.store.now.good.delegations.digests.long

pub slice_bounds-row-end : goal.slice_bounds-row-end
slice_bounds-row-end c = sym c.args.store.now.good.delegations.issuer.long

pub slice_bounds-row-end-then-at-n : goal.slice_bounds-row-end-then-at-n
slice_bounds-row-end-then-at-n c = sym c.args.store.now.good.delegations.audience.long

pub slice_bounds-row-end-then-at-n-2 : goal.slice_bounds-row-end-then-at-n-2
slice_bounds-row-end-then-at-n-2 c = sym c.args.store.now.good.delegations.subject.long

pub slice_bounds-row-end-then-at-n-3 : goal.slice_bounds-row-end-then-at-n-3
slice_bounds-row-end-then-at-n-3 c = sym c.args.store.now.good.delegations.power.long

pub slice_bounds-row-end-then-at-n-4 : goal.slice_bounds-row-end-then-at-n-4
slice_bounds-row-end-then-at-n-4 c = sym c.args.store.now.good.delegations.cited

pub slice_bounds-put_delegation-end : goal.slice_bounds-put_delegation-end
slice_bounds-put_delegation-end c = sym c.args.store.now.good.keys.long

pub slice_bounds-put_delegation-end-then-at-n : goal.slice_bounds-put_delegation-end-then-at-n
slice_bounds-put_delegation-end-then-at-n c = sym c.args.store.now.good.delegations.citation

pub put_delegation-requires : goal.put_delegation-requires
put_delegation-requires c = rw c.row-row.ensures (row_fits c.args.store.now c.args.store.now.good c.find-at.result c.if-at-n.true)

pub returns-then-at-n : goal.returns-then-at-n
returns-then-at-n c =
    let st = c.args.store.now in
    let d = c.args.digest.now in
    let at = c.find-at.result in
    let h = c.if-at-n.true in
    let w : delegation_with (committed st) d ≡ delegation_at st.keys.table st.delegations at.0 = delegation_is st c.args.store.now.good d at.0 c.find-at.ensures h in
    let f : has (delegation_digests (committed st)) d ≡ true = sym (delegation_found st c.args.store.now.good d at.0 c.find-at.ensures) ∙ lt-ltb at.0 st.delegations.count h in
    let e = c.row-row.ensures in
    let p = c.put_delegation.ensures in
    record {
      answer = rw (f, w) ((rw e at p.answer) ∙ sym (look_there d _ c.if-digest-ne-DIGEST_LENGTH.false));
      issuer = rw w (rw e at p.issuer);
      payload = rw w (rw e at p.payload);
    }

pub returns : goal.returns
returns c =
    let st = c.args.store.now in
    let d = c.args.digest.now in
    let at = c.find-at.result in
    let f : has (delegation_digests (committed st)) d ≡ false = sym (delegation_found st c.args.store.now.good d at.0 c.find-at.ensures) ∙ le-ltb at.0 st.delegations.count c.if-at-n.false in
    record { answer = rw f (sym (look_absent d _ c.if-digest-ne-DIGEST_LENGTH.false)); issuer = refl; payload = refl }
