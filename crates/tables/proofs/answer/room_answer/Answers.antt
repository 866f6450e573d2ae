use Prim.Native.Nat.{◌+◌}
use borrow.Author.Tests.{lt-ltb, le-ltb}
use Rattle.keyline.specs.Limits.{key_limit}
use Rattle.tables.proofs.answer.room_answer.Goals as goal

pub returns-then-m-new-gt-KEY_LIMIT : goal.returns-then-m-new-gt-KEY_LIMIT
returns-then-m-new-gt-KEY_LIMIT c = rw (lt-ltb key_limit (c.args.m + c.args.new) c.if-m-new-gt-KEY_LIMIT.true)

pub returns : goal.returns
returns c = rw (le-ltb key_limit (c.args.m + c.args.new) c.if-m-new-gt-KEY_LIMIT.false)
