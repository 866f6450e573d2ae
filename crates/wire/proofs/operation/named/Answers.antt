-- Which group the byte is of.
use borrow.Author.Tests.{lt-ltb, le-ltb}
use Rattle.wire.specs.Operation.{operation_of}
use Rattle.wire.proofs.operation.named.Goals as goal

pub returns-then-byte-lt16 : goal.returns-then-byte-lt16
unfolding operation_of
returns-then-byte-lt16 c = rw (lt-ltb _ _ c.if-byte-lt16.true) c.change_of.ensures

pub returns-then-byte-lt32 : goal.returns-then-byte-lt32
unfolding operation_of
returns-then-byte-lt32 c = rw (le-ltb _ _ c.if-byte-lt16.false, lt-ltb _ _ c.if-byte-lt32.true) c.of_state.ensures

pub returns : goal.returns
unfolding operation_of
returns c = rw (le-ltb _ _ c.if-byte-lt16.false, le-ltb _ _ c.if-byte-lt32.false) c.of_evaluated.ensures
