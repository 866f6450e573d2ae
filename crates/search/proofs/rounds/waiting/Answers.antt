-- `search::rounds::waiting` meets its contract. The loop's invariant: of the roots that are no longer left, w has those over which r stands.
use Rattle.search.proofs.Laws.Sets.{gathered_none, gathered_all, gathered_less}
use Rattle.search.proofs.rounds.waiting.Goals as goal

pub loop-left-init : goal.loop-left-init
loop-left-init c = gathered_none _ c.args.roots

pub loop-left-smaller-then-has : goal.loop-left-smaller-then-has
loop-left-smaller-then-has c = gathered_less c.loop-left.left c.without-left.result c.lowest-q.result c.loop-left.invariant c.lowest-q.ensures.1 c.without-left.ensures.0 c.without-left.ensures.1 c.lowest-q.ensures.0

pub loop-left-smaller : goal.loop-left-smaller
loop-left-smaller c = gathered_less c.loop-left.left c.without-left.result c.lowest-q.result c.loop-left.invariant c.lowest-q.ensures.1 c.without-left.ensures.0 c.without-left.ensures.1 c.lowest-q.ensures.0

pub returns : goal.returns
returns c = gathered_all c.loop-left-test.false c.loop-left.invariant
