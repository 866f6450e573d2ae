-- Each test settles a step of the answer.
use mathlib.Core.Path.{sym, ◌∙◌}
use mathlib.Core.List.{[], ◌∷◌}
use native.Mathlib.Omega.{arith}
use borrow.Author.Tests.{lt-ltb, le-ltb}
use Rattle.runs.proofs.ByteLaws.{length_run}
use Rattle.runs.proofs.TableLaws.{runs_long}
use Rattle.runs.proofs.FreshLaws.{fresh_le}
use Rattle.runs.specs.Table.{runs}
use Rattle.keyline.specs.Limits.{key_limit, delegation_limit}
use Rattle.tables.specs.Insertion.{accepted_answer, keys_answer}
use Rattle.tables.specs.Look.{row_there, argument}
use Rattle.tables.proofs.ContentLaws.{content_parts}
use Rattle.tables.proofs.answer.accepted_answer.Goals as goal

pub same_content-requires : goal.same_content-requires
same_content-requires c = c.requires.4 c.if-at-n.true

pub returns-then-at-n : goal.returns-then-at-n
unfolding accepted_answer
returns-then-at-n c =
    let k = c.args.keys.now in
    let f = c.requires.4 c.if-at-n.true in
    let g = row_there k c.args.citations.now c.args.at c.args.row in
    let h = argument c.args.issuer.now c.args.audience.now c.args.subject.now c.args.power c.args.citation.now in
    let e = content_parts g h (length_run k c.args.row.audience.0 f.audience ∙ sym c.requires.2) (length_run k c.args.row.subject.0 f.subject ∙ sym c.requires.3) in
    rw (lt-ltb c.args.at.0 c.args.n c.if-at-n.true, e, ← c.same_content.ensures) c.held_answer.ensures

pub returns-then-n-ge-DELEGATION_LIMIT : goal.returns-then-n-ge-DELEGATION_LIMIT
unfolding accepted_answer
returns-then-n-ge-DELEGATION_LIMIT c = rw (le-ltb c.args.at.0 c.args.n c.if-at-n.false, le-ltb c.args.n delegation_limit c.if-n-ge-DELEGATION_LIMIT.true)

pub room_answer-requires : goal.room_answer-requires
room_answer-requires c =
    let h =
    fresh_le (runs c.args.keys.now c.args.m) (c.args.issuer.now ∷ c.args.audience.now ∷ c.args.subject.now ∷ []) in
    let e = c.fresh_three.ensures in
    (c.requires.0.room, omega arith)

pub returns : goal.returns
unfolding accepted_answer keys_answer
returns c =
    rw (
      le-ltb c.args.at.0 c.args.n c.if-at-n.false,
      lt-ltb c.args.n delegation_limit c.if-n-ge-DELEGATION_LIMIT.false,
      runs_long key_limit c.args.keys.now c.args.m c.requires.0,
      ← c.fresh_three.ensures,
    )
    c.room_answer.ensures
