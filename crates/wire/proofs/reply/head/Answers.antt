-- Byte by byte.
use mathlib.Core.Path.{refl}
use Rattle.wire.specs.Reply.{head_of}
use Rattle.wire.proofs.reply.head.Goals as goal

pub returns : goal.returns
unfolding head_of
returns c = rw (c.to_le_bytes-a.ensures, c.to_le_bytes-b.ensures) refl
