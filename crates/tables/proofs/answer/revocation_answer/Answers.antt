-- Each test settles a step of the answer.
use mathlib.Core.Path.{ap, ◌∙◌}
use mathlib.Core.List.{[], ◌∷◌}
use native.Mathlib.Omega.{arith}
use borrow.Author.Tests.{eq-eqb, ne_eqb, lt-ltb, le-ltb}
use Rattle.runs.proofs.TableLaws.{runs_long}
use Rattle.runs.proofs.FreshLaws.{fresh_le}
use Rattle.runs.specs.Table.{runs}
use Rattle.keyline.specs.Limits.{key_limit, revocation_limit}
use Rattle.tables.specs.Committed.{same_revoked}
use Rattle.tables.specs.Insertion.{revocation_check, revocation_settled, held_answer, keys_answer}
use Rattle.tables.proofs.answer.revocation_answer.Goals as goal

pub returns-then-digest-ne-DIGEST_LENGTH : goal.returns-then-digest-ne-DIGEST_LENGTH
unfolding revocation_check
returns-then-digest-ne-DIGEST_LENGTH c = rw (ne_eqb _ _ c.if-digest-ne-DIGEST_LENGTH.true)

pub returns-then-issuer-ne-KEY_LENGTH : goal.returns-then-issuer-ne-KEY_LENGTH
unfolding revocation_check
returns-then-issuer-ne-KEY_LENGTH c = rw (eq-eqb _ _ c.if-digest-ne-DIGEST_LENGTH.false, ne_eqb _ _ c.if-issuer-ne-KEY_LENGTH.true)

pub returns-then-revoked-ne-DIGEST_LENGTH : goal.returns-then-revoked-ne-DIGEST_LENGTH
unfolding revocation_check
returns-then-revoked-ne-DIGEST_LENGTH c = rw (eq-eqb _ _ c.if-digest-ne-DIGEST_LENGTH.false, eq-eqb _ _ c.if-issuer-ne-KEY_LENGTH.false, ne_eqb _ _ c.if-revoked-ne-DIGEST_LENGTH.true)

pub same_revoked-requires : goal.same_revoked-requires
same_revoked-requires c = c.requires.1 c.if-at-n.true

pub returns-then-at-n : goal.returns-then-at-n
unfolding revocation_check revocation_settled same_revoked
returns-then-at-n c =
    rw (
      eq-eqb _ _ c.if-digest-ne-DIGEST_LENGTH.false,
      eq-eqb _ _ c.if-issuer-ne-KEY_LENGTH.false,
      eq-eqb _ _ c.if-revoked-ne-DIGEST_LENGTH.false,
      lt-ltb c.args.at.0 c.args.n c.if-at-n.true,
    )
    (c.held_answer.ensures ∙ ap held_answer c.same_revoked.ensures)

pub returns-then-n-ge-REVOCATION_LIMIT : goal.returns-then-n-ge-REVOCATION_LIMIT
unfolding revocation_check revocation_settled
returns-then-n-ge-REVOCATION_LIMIT c =
    rw (
      eq-eqb _ _ c.if-digest-ne-DIGEST_LENGTH.false,
      eq-eqb _ _ c.if-issuer-ne-KEY_LENGTH.false,
      eq-eqb _ _ c.if-revoked-ne-DIGEST_LENGTH.false,
      le-ltb c.args.at.0 c.args.n c.if-at-n.false,
      le-ltb c.args.n revocation_limit c.if-n-ge-REVOCATION_LIMIT.true,
    )

pub room_answer-requires : goal.room_answer-requires
room_answer-requires c =
    let h = fresh_le (runs c.args.keys.now c.args.m) (c.args.issuer.now ∷ []) in
    let e = c.fresh_one.ensures in
    (c.requires.0.room, omega arith)

pub returns : goal.returns
unfolding revocation_check revocation_settled keys_answer
returns c =
    rw (
      eq-eqb _ _ c.if-digest-ne-DIGEST_LENGTH.false,
      eq-eqb _ _ c.if-issuer-ne-KEY_LENGTH.false,
      eq-eqb _ _ c.if-revoked-ne-DIGEST_LENGTH.false,
      le-ltb c.args.at.0 c.args.n c.if-at-n.false,
      lt-ltb c.args.n revocation_limit c.if-n-ge-REVOCATION_LIMIT.false,
      runs_long key_limit c.args.keys.now c.args.m c.requires.0,
      ← c.fresh_one.ensures,
    )
    c.room_answer.ensures
