-- `coverage::members::reached` meets its contract. The loop's invariant: of the members that are no longer left, w has those whose delegation's issuer was found.
use Rattle.search.proofs.Laws.Sets.{gathered_none, gathered_all, gathered_less}
use Rattle.coverage.proofs.members.reached.Goals.{After-reached, After-from-d}
use Rattle.coverage.proofs.members.reached.Goals as goal

pub loop-left-init : goal.loop-left-init
loop-left-init c = gathered_none _ c.args.members

pub loop-left-smaller-then-reached : goal.loop-left-smaller-then-reached
loop-left-smaller-then-reached c = gathered_less c.loop-left.left c.without-left.result c.lowest-j.result c.loop-left.invariant c.lowest-j.ensures.1 c.without-left.ensures.0 c.without-left.ensures.1 c.lowest-j.ensures.0

pub loop-left-smaller : goal.loop-left-smaller
loop-left-smaller c = gathered_less c.loop-left.left c.without-left.result c.lowest-j.result c.loop-left.invariant c.lowest-j.ensures.1 c.without-left.ensures.0 c.without-left.ensures.1 c.lowest-j.ensures.0

pub returns : goal.returns
returns c = gathered_all c.loop-left-test.false c.loop-left.invariant
