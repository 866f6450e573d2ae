-- The keys are marked that the column of subjects names.
use mathlib.Core.Path.{◌≡◌, refl, sym}
use native.Mathlib.Omega.{arith}
use Rattle.keyline.specs.Limits.{key_limit}
use Rattle.tables.specs.Columns.{delegation_at}
use Rattle.store.specs.Store.{committed}
use Rattle.store.specs.Parts.{holds}
use Rattle.lists.specs.Lists.{subjects_of}
use Rattle.lists.specs.Marks.{chosen_runs}
use Rattle.lists.proofs.ChosenLaws.{stand, keys_chosen}
use Rattle.lists.proofs.lists.subjects.Goals as goal

pub slice_bounds-subjects-end : goal.slice_bounds-subjects-end
slice_bounds-subjects-end c = sym c.args.store.now.good.delegations.subject.long

pub slice_bounds-choose-end : goal.slice_bounds-choose-end
slice_bounds-choose-end c = sym c.args.store.now.good.keys.long

pub slice_bounds-write_one-end : goal.slice_bounds-write_one-end
slice_bounds-write_one-end c = sym c.args.store.now.good.keys.long

pub write_one-requires : goal.write_one-requires
write_one-requires c =
    let st = c.args.store.now in
    stand key_limit st.keys.table st.keys.count c.args.store.now.good.keys (omega arith) c.subjects-on.result c.choose-c.result c.choose-c.ensures

pub returns : goal.returns
unfolding holds
returns c =
    let st = c.args.store.now in
    let p = c.args.store.now.good.delegations.subject in
    let l = p.long in
    let a = c.args.store.now.good.delegations.digests.room in
    let e : chosen_runs st.keys.table c.choose-c.result ≡ subjects_of (committed st) =
    keys_chosen key_limit st.keys.table st.keys.count c.args.store.now.good.keys (omega arith) c.subjects-on.result c.choose-c.result c.choose-c.ensures
    (delegation_at st.keys.table st.delegations) (λ g. g.subject) st.delegations.count st.delegations.subject (omega arith) p.held c.subjects-on.ensures.1 (λ i h. refl) in
    record { answer = rw (← e) c.write_one.ensures.answer; out = rw (← e) c.write_one.ensures.out }
