-- `sought::seek_delegation` meets its contract: each test settles the case.
use Rattle.keyline.specs.Limits.{delegation_limit}
use Rattle.answers.specs.Sought as says
use Rattle.answers.proofs.Standing.{stands_there, stands_nowhere}
use Rattle.answers.proofs.sought.seek_delegation.Goals as goal

pub returns-then-digest-ne-DIGEST_LENGTH : goal.returns-then-digest-ne-DIGEST_LENGTH
returns-then-digest-ne-DIGEST_LENGTH c = says.wrong_length c.if-digest-ne-DIGEST_LENGTH.true

pub returns-then-n-d : goal.returns-then-n-d
returns-then-n-d c =
    says.unheld c.if-digest-ne-DIGEST_LENGTH.false (stands_nowhere delegation_limit c.args.digests.now c.args.n c.requires c.args.digest.now c.find-d.result.0 c.find-d.ensures c.if-n-d.true)

pub returns : goal.returns
returns c =
    says.held c.if-digest-ne-DIGEST_LENGTH.false c.if-n-d.false (stands_there delegation_limit c.args.digests.now c.args.n c.requires c.args.digest.now c.find-d.result.0 c.find-d.ensures c.if-n-d.false)
