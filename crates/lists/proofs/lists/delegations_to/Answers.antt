-- The delegations are marked whose subject and audience stand at the places that were found.
use Prim.Native.Nat.{ℕ}
use mathlib.Core.Path.{◌≡◌, refl, sym, ap, ◌∙◌}
use mathlib.Core.Bool.{Bool, false, cond}
use native.Mathlib.Omega.{arith}
use lib.ListN.{get_or}
use lib.Dec.{eqb}
use borrow.Author.Tests.{eq-eqb, ne_eqb}
use Rattle.keyline.specs.Limits.{key_limit, delegation_limit}
use Rattle.tables.specs.Columns.{delegation_at}
use Rattle.store.specs.Store.{committed}
use Rattle.store.specs.Parts.{holds}
use Rattle.lists.specs.Lists.{length_first, from_to, delegations_to}
use Rattle.lists.specs.Marks.{chosen_runs}
use Rattle.lists.proofs.ChosenLaws.{stand, rows_chosen, same_place}
use Rattle.lists.proofs.lists.delegations_to.Goals as goal

both : {t u v w : Bool} → t ≡ u → v ≡ w → cond t v false ≡ cond u w false
both e f = rw (e, f)

pub returns-then-subject-ne-KEY_LENGTH : goal.returns-then-subject-ne-KEY_LENGTH
unfolding length_first
returns-then-subject-ne-KEY_LENGTH c = record { answer = rw (ne_eqb _ _ c.if-subject-ne-KEY_LENGTH.true); out = refl }

pub returns-then-audience-ne-KEY_LENGTH : goal.returns-then-audience-ne-KEY_LENGTH
unfolding length_first
returns-then-audience-ne-KEY_LENGTH c = record { answer = rw (eq-eqb _ _ c.if-subject-ne-KEY_LENGTH.false, ne_eqb _ _ c.if-audience-ne-KEY_LENGTH.true); out = refl }

pub slice_bounds-find-end : goal.slice_bounds-find-end
slice_bounds-find-end c = sym c.args.store.now.good.keys.long

pub slice_bounds-find-end-2 : goal.slice_bounds-find-end-2
slice_bounds-find-end-2 c = sym c.args.store.now.good.keys.long

pub slice_bounds-between-end : goal.slice_bounds-between-end
slice_bounds-between-end c = sym c.args.store.now.good.delegations.subject.long

pub slice_bounds-between-end-2 : goal.slice_bounds-between-end-2
slice_bounds-between-end-2 c = sym c.args.store.now.good.delegations.audience.long

pub slice_bounds-choose-end : goal.slice_bounds-choose-end
slice_bounds-choose-end c = sym c.args.store.now.good.delegations.digests.long

pub choose-c-requires : goal.choose-c-requires
choose-c-requires c =
    let a = c.args.store.now.good.delegations.digests.room in
    let l = c.between-on.ensures.0 in
    (c.args.store.now.good.delegations.digests, omega arith, omega arith)

pub slice_bounds-write_one-end : goal.slice_bounds-write_one-end
slice_bounds-write_one-end c = sym c.args.store.now.good.delegations.digests.long

pub write_one-requires : goal.write_one-requires
write_one-requires c =
    let st = c.args.store.now in
    stand delegation_limit st.delegations.digests st.delegations.count c.args.store.now.good.delegations.digests (omega arith) c.between-on.result c.choose-c.result c.choose-c.ensures

pub returns : goal.returns
unfolding holds length_first
returns c =
    let st = c.args.store.now in
    let x = c.args.subject.now in
    let y = c.args.audience.now in
    let k = st.keys.table in
    let m = st.keys.count in
    let d = c.args.store.now.good.delegations in
    let e : chosen_runs st.delegations.digests c.choose-c.result ≡ delegations_to (committed st) x y =
    rows_chosen delegation_limit st.delegations.digests st.delegations.count c.args.store.now.good.delegations.digests (omega arith) c.between-on.result c.choose-c.result c.choose-c.ensures
    (delegation_at k st.delegations) (λ g. g.digest) (from_to x y)
    (λ i h.
    c.between-on.ensures.1 i h
    ∙ both (ap (λ (p : ℕ). eqb (get_or st.delegations.subject i 0) p) c.find-i.ensures ∙ same_place key_limit k m c.args.store.now.good.keys (get_or st.delegations.subject i 0) (d.subject.held i h) x)
    (ap (λ (p : ℕ). eqb (get_or st.delegations.audience i 0) p) c.find-j.ensures ∙ same_place key_limit k m c.args.store.now.good.keys (get_or st.delegations.audience i 0) (d.audience.held i h) y))
    (λ i h. refl) in
    record { answer = rw (eq-eqb _ _ c.if-subject-ne-KEY_LENGTH.false, eq-eqb _ _ c.if-audience-ne-KEY_LENGTH.false, ← e) c.write_one.ensures.answer; out = rw (← e) c.write_one.ensures.out }
