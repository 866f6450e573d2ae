-- `sought::seek_key` meets its contract: each test settles the case.
use Rattle.keyline.specs.Limits.{key_limit}
use Rattle.answers.specs.Sought as says
use Rattle.answers.proofs.Standing.{stands_there, stands_nowhere}
use Rattle.answers.proofs.sought.seek_key.Goals as goal

pub returns-then-subject-ne-KEY_LENGTH : goal.returns-then-subject-ne-KEY_LENGTH
returns-then-subject-ne-KEY_LENGTH c = says.wrong_length c.if-subject-ne-KEY_LENGTH.true

pub returns-then-n-s : goal.returns-then-n-s
returns-then-n-s c =
    says.unheld c.if-subject-ne-KEY_LENGTH.false (stands_nowhere key_limit c.args.table.now c.args.n c.requires c.args.subject.now c.find-s.result.0 c.find-s.ensures c.if-n-s.true)

pub returns : goal.returns
returns c =
    says.held c.if-subject-ne-KEY_LENGTH.false c.if-n-s.false (stands_there key_limit c.args.table.now c.args.n c.requires c.args.subject.now c.find-s.result.0 c.find-s.ensures c.if-n-s.false)
