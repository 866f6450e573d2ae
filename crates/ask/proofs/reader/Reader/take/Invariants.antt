-- `take` ends: what is left of the text gets shorter with each line.
use Rattle.std.proofs.Common.{length}
use Rattle.ask.proofs.reader.Reader.take.Given as goal

abbrev pub decreases-loop-end : goal.decreases-loop-end
decreases-loop-end g l = length l.rest
