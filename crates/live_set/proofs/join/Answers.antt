-- `live_set::join` meets its contract. The loop's invariant: the grades of those that are no longer left stand.
use Rattle.coverage.proofs.Laws.Put.{putting_all, left_less}
use Rattle.live_set.proofs.join.Goals as goal

pub loop-left-smaller : goal.loop-left-smaller
loop-left-smaller c =
    left_less c.args.newly c.loop-left.left c.without-left.result c.lowest-j.result c.lowest-j.ensures.1 c.without-left.ensures.0 c.without-left.ensures.1 c.lowest-j.ensures.0

pub returns : goal.returns
returns c = putting_all c.loop-left-test.false c.loop-left.invariant.1
