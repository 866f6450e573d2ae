-- The lengths, the payload, and then the rest.
use mathlib.Core.Path.{◌≡◌, refl, ◌∙◌}
use borrow.Author.Tests.{eq-eqb, ne_eqb}
use Rattle.tables.specs.Insertion.{delegation_check, accepted_answer, keys_answer, Seen}
use Rattle.tables.specs.Committed.{Delegation, same_content}
use Rattle.tables.specs.Look.{argument}
use Rattle.power_levels.specs.declared.power.Power.{Power}
use Rattle.runs.specs.Bytes.{Bytes}
use Rattle.keyline.proofs.HandedOn.{handed_on}
use Rattle.tables.proofs.PayloadLaws.{parts}
use Rattle.tables.proofs.answer.delegation_answer.Goals as goal

-- no check looks at the digest of what is inserted
any_digest : (v : Seen Delegation) (d i a s c : Bytes) (w : Power) → accepted_answer v (argument i a s w c) ≡ accepted_answer v (record { digest = d; issuer = i; audience = a; subject = s; power = w; citation = c })
unfolding accepted_answer same_content keys_answer
any_digest v d i a s c w = refl

pub returns-then-digest-ne-DIGEST_LENGTH : goal.returns-then-digest-ne-DIGEST_LENGTH
unfolding delegation_check
returns-then-digest-ne-DIGEST_LENGTH c = rw (ne_eqb _ _ c.if-digest-ne-DIGEST_LENGTH.true)

pub returns-then-issuer-ne-KEY_LENGTH : goal.returns-then-issuer-ne-KEY_LENGTH
unfolding delegation_check
returns-then-issuer-ne-KEY_LENGTH c = rw (eq-eqb _ _ c.if-digest-ne-DIGEST_LENGTH.false, ne_eqb _ _ c.if-issuer-ne-KEY_LENGTH.true)

pub accepted_answer-requires : goal.accepted_answer-requires
accepted_answer-requires c =
    let k = c.in_ok-found.ensures.accepted in
    let q = parts c.args.payload.now c.in_ok-found.found.power k.has_citation k.accepted in
    (c.requires.0, c.if-issuer-ne-KEY_LENGTH.false, rw k.audience q.audience, rw k.subject q.subject, c.requires.1)

pub returns-in_err-found : goal.returns-in_err-found
unfolding delegation_check
returns-in_err-found c =
    rw (handed_on c.from_residual.result c.in_err-found.field-0.0 c.from_residual.ensures.1)
    (rw (eq-eqb _ _ c.if-digest-ne-DIGEST_LENGTH.false, eq-eqb _ _ c.if-issuer-ne-KEY_LENGTH.false, c.in_err-found.ensures.refused))

pub returns : goal.returns
unfolding delegation_check
returns c =
    let k = c.in_ok-found.ensures.accepted in
    rw (eq-eqb _ _ c.if-digest-ne-DIGEST_LENGTH.false, eq-eqb _ _ c.if-issuer-ne-KEY_LENGTH.false, k.accepted)
    (rw (k.audience, k.subject, k.citation) at c.accepted_answer.ensures ∙ any_digest _ c.args.digest.now _ _ _ _ _)
