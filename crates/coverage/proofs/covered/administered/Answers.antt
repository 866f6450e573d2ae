-- `coverage::covered::administered` meets its contract. The loop's invariant: of the subjects that are no longer left, r has those that a key of w administers.
use Rattle.search.proofs.Laws.Sets.{gathered_none, gathered_all, gathered_less}
use Rattle.coverage.proofs.covered.administered.Goals as goal

pub loop-left-init : goal.loop-left-init
loop-left-init c = gathered_none _ c.args.subjects

pub loop-left-smaller-then-share : goal.loop-left-smaller-then-share
loop-left-smaller-then-share c = gathered_less c.loop-left.left c.without-left.result c.lowest-s.result c.loop-left.invariant c.lowest-s.ensures.1 c.without-left.ensures.0 c.without-left.ensures.1 c.lowest-s.ensures.0

pub loop-left-smaller : goal.loop-left-smaller
loop-left-smaller c = gathered_less c.loop-left.left c.without-left.result c.lowest-s.result c.loop-left.invariant c.lowest-s.ensures.1 c.without-left.ensures.0 c.without-left.ensures.1 c.lowest-s.ensures.0

pub returns : goal.returns
returns c = gathered_all c.loop-left-test.false c.loop-left.invariant
