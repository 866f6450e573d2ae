-- Field by field.
use mathlib.Core.Path.{refl}
use Rattle.wire.proofs.request.read.Goals as goal

pub returns : goal.returns
returns c = (rw (c.named-operation.ensures, c.pair-first.ensures.value, c.pair-second.ensures.value, c.pair-third.ensures.value, c.pair-room.ensures.value, c.single-other.ensures.0) refl, record { first = c.pair-first.ensures.upper_bound; second = c.pair-second.ensures.upper_bound; third = c.pair-third.ensures.upper_bound; room = c.pair-room.ensures.upper_bound; other = c.single-other.ensures.1 })
