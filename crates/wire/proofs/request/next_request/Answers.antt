-- The rest of a well-formed script begins with a whole request.
use Rattle.wire.proofs.Reading.{header_of, next_of}
use Rattle.wire.proofs.request.next_request.Goals as goal

pub read-requires : goal.read-requires
read-requires c = header_of c.requires.0 c.requires.1

pub returns : goal.returns
returns c = next_of c.read.result c.requires.0 c.requires.1 c.read.ensures.0 c.read.ensures.1
