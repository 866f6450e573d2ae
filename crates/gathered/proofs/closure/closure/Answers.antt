-- `closure` meets its contract: what was sought settles the case, and the chosen places are the closure's.
use mathlib.Core.Path.{sym, ap, ◌∙◌}
use native.Mathlib.Omega.{arith}
use Rattle.lent.specs.Bytes.{front}
use Rattle.runs.specs.Bytes.{joined}
use Rattle.keyline.specs.Limits.{delegation_limit, revocation_limit}
use Rattle.store.specs.Store.{committed}
use Rattle.lists.proofs.ChosenLaws.{stand}
use Rattle.answers.specs.Answers as says
use Rattle.answers.specs.Answers.{ClosureAnswer}
use Rattle.answers.proofs.Closures.{no_closure}
use Rattle.keyline.proofs.HandedOn.{handed_on}
use Rattle.answers.proofs.Seeking.{key_refused, key_unheld, key_at}
use Rattle.answers.proofs.ClosureAnswered.{closure_answer}
use Rattle.gathered.proofs.closure.closure.Goals as goal
use Rattle.std.specs.Prelude.{Ok, Err}

pub slice_bounds-seek_key-end : goal.slice_bounds-seek_key-end
slice_bounds-seek_key-end c = sym c.requires.store.keys.long

pub nodes-nodes-requires : goal.nodes-nodes-requires
nodes-nodes-requires c =
    let g = c.requires in
    let a = key_at c.seek_key.ensures (c.in_ok-seek_key.was ∙ ap Ok c.in-Some.is) in
    let h = a.within in
    let r = g.store.keys.room in
    (g.evaluation, omega arith)

pub slice_bounds-in_nodes-end : goal.slice_bounds-in_nodes-end
slice_bounds-in_nodes-end c = sym c.requires.store.delegations.subject.long

pub slice_bounds-naming-end : goal.slice_bounds-naming-end
slice_bounds-naming-end c =
    sym c.requires.facts.target_long

pub naming-revs-requires : goal.naming-revs-requires
naming-revs-requires c =
    let g = c.requires in
    let r = g.store.revocations.digests.room in
    let l = g.facts.target_long in
    let d = g.store.delegations.digests.room in
    let k = c.in_nodes-dels.ensures.long in
    (omega arith, omega arith, omega arith)

pub slice_bounds-choose-end : goal.slice_bounds-choose-end
slice_bounds-choose-end c = sym c.requires.store.delegations.digests.long

pub choose-a-requires : goal.choose-a-requires
choose-a-requires c =
    let g = c.requires in
    let d = g.store.delegations.digests.room in
    let k = c.in_nodes-dels.ensures.long in
    (g.store.delegations.digests, omega arith, omega arith)

pub slice_bounds-choose-end-in-Some-2 : goal.slice_bounds-choose-end-in-Some-2
slice_bounds-choose-end-in-Some-2 c = sym c.requires.store.revocations.digests.long

pub choose-b-requires : goal.choose-b-requires
choose-b-requires c =
    let g = c.requires in
    let d = g.store.revocations.digests.room in
    let k = c.naming-revs.ensures.long in
    (g.store.revocations.digests, omega arith, omega arith)

pub slice_bounds-write_both-end : goal.slice_bounds-write_both-end
slice_bounds-write_both-end c = sym c.requires.store.delegations.digests.long

pub slice_bounds-write_both-end-in-Some : goal.slice_bounds-write_both-end-in-Some
slice_bounds-write_both-end-in-Some c = sym c.requires.store.revocations.digests.long

pub write_both-requires : goal.write_both-requires
write_both-requires c =
    let st = c.args.store.now in
    let g = c.requires.store in (
      stand delegation_limit st.delegations.digests st.delegations.count g.delegations.digests (omega arith) c.in_nodes-dels.result c.choose-a.result c.choose-a.ensures,
      stand revocation_limit st.revocations.digests st.revocations.count g.revocations.digests (omega arith) c.naming-revs.result c.choose-b.result c.choose-b.ensures,
    )

pub returns-in_err-seek_key : goal.returns-in_err-seek_key
returns-in_err-seek_key c =
    let s = c.args in
    rw (handed_on c.from_residual.result c.in_err-seek_key.field-0.0 c.from_residual.ensures.1)
    (key_refused (λ w. ClosureAnswer (committed s.store.now) s.subject.now s.out.now (Err w) s.out.now) (λ h. says.subject-length h) c.seek_key.ensures c.in_err-seek_key.was)

pub returns-in-None : goal.returns-in-None
unfolding front joined
returns-in-None c =
    let s = c.args in
    let g = c.requires in
    let a = key_unheld c.seek_key.ensures (c.in_ok-seek_key.was ∙ ap Ok c.in-None.is) in
    says.answered a.long (no_closure s.store.now g.store s.subject.now a.absent) (omega arith)

pub returns-in-Some : goal.returns-in-Some
returns-in-Some c =
    let s = c.args in
    let g = c.requires in
    let a = key_at c.seek_key.ensures (c.in_ok-seek_key.was ∙ ap Ok c.in-Some.is) in
    closure_answer s.store.now g.store s.evaluation.now.facts g.facts c.in-Some.s.0 a.within c.nodes-nodes.result c.nodes-nodes.ensures
    c.in_nodes-dels.result c.naming-revs.result c.in_nodes-dels.ensures c.naming-revs.ensures
    c.choose-a.result c.choose-b.result c.choose-a.ensures c.choose-b.ensures
    a.long a.is c.write_both.ensures.answer c.write_both.ensures.out
