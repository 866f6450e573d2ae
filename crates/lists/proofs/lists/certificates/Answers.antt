-- Every row is marked, in both tables.
use mathlib.Core.Path.{◌≡◌, refl, sym}
use native.Mathlib.Omega.{arith}
use Rattle.keyline.specs.Limits.{delegation_limit, revocation_limit}
use Rattle.tables.specs.Columns.{delegation_at, revocation_at}
use Rattle.store.specs.Store.{committed}
use Rattle.store.specs.Parts.{holds}
use Rattle.lists.specs.Lists.{all, certificate_delegations, certificate_revocations}
use Rattle.lists.specs.Marks.{chosen_runs}
use Rattle.lists.proofs.ChosenLaws.{stand, rows_chosen}
use Rattle.lists.proofs.lists.certificates.Goals as goal

pub slice_bounds-choose-end : goal.slice_bounds-choose-end
slice_bounds-choose-end c = sym c.args.store.now.good.delegations.digests.long

pub slice_bounds-choose-end-3 : goal.slice_bounds-choose-end-3
slice_bounds-choose-end-3 c = sym c.args.store.now.good.revocations.digests.long

pub slice_bounds-write_both-end : goal.slice_bounds-write_both-end
slice_bounds-write_both-end c = sym c.args.store.now.good.delegations.digests.long

pub slice_bounds-write_both-end-2 : goal.slice_bounds-write_both-end-2
slice_bounds-write_both-end-2 c = sym c.args.store.now.good.revocations.digests.long

pub write_both-requires : goal.write_both-requires
write_both-requires c =
    let st = c.args.store.now in (
      stand delegation_limit st.delegations.digests st.delegations.count c.args.store.now.good.delegations.digests (omega arith) c.all-on.result c.choose-c.result c.choose-c.ensures,
      stand revocation_limit st.revocations.digests st.revocations.count c.args.store.now.good.revocations.digests (omega arith) c.all-on.result c.choose-d.result c.choose-d.ensures,
    )

pub returns : goal.returns
unfolding holds
returns c =
    let st = c.args.store.now in
    let on = c.all-on.result in
    let m = c.all-on.ensures.1 in
    let a = c.args.store.now.good.delegations.digests.room in
    let b = c.args.store.now.good.revocations.digests.room in
    let e : chosen_runs st.delegations.digests c.choose-c.result ≡ certificate_delegations (committed st) =
    rows_chosen delegation_limit st.delegations.digests st.delegations.count c.args.store.now.good.delegations.digests (omega arith) on c.choose-c.result c.choose-c.ensures
    (delegation_at st.keys.table st.delegations) (λ g. g.digest) all (λ i h. m i (omega arith)) (λ i h. refl) in
    let f : chosen_runs st.revocations.digests c.choose-d.result ≡ certificate_revocations (committed st) =
    rows_chosen revocation_limit st.revocations.digests st.revocations.count c.args.store.now.good.revocations.digests (omega arith) on c.choose-d.result c.choose-d.ensures
    (revocation_at st.keys.table st.revocations) (λ r. r.digest) all (λ i h. m i (omega arith)) (λ i h. refl) in
    record { answer = rw (← e, ← f) c.write_both.ensures.answer; out = rw (← e, ← f) c.write_both.ensures.out }
