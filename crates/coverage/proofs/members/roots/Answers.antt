-- `coverage::members::roots` meets its contract. The loop's invariant: w has the subjects of those that are no longer left.
use Rattle.coverage.proofs.Laws.Put.{passing_none, passing_all, left_less}
use Rattle.coverage.proofs.members.roots.Goals.{After-from-d}
use Rattle.coverage.proofs.members.roots.Goals as goal

pub loop-left-init : goal.loop-left-init
loop-left-init c = passing_none c.args.members _

pub loop-left-smaller : goal.loop-left-smaller
loop-left-smaller c =
    left_less c.args.members c.loop-left.left c.without-left.result c.lowest-j.result c.lowest-j.ensures.1 c.without-left.ensures.0 c.without-left.ensures.1 c.lowest-j.ensures.0

pub returns : goal.returns
returns c = passing_all c.loop-left-test.false c.loop-left.invariant
