-- `search::search` meets its contract. The loop's invariant: every known root that is not left has closed words. At the end none is left, and what is
-- closed is complete (Laws/Complete.antt). What can still rise bounds the rounds.
use Rattle.search.specs.Rounds.{room}
use Rattle.search.proofs.Laws.Complete.{going_end, round_less}
use Rattle.search.proofs.Laws.Lent.{ready_of}
use Rattle.search.proofs.search.Goals as goal

pub loop-left-smaller : goal.loop-left-smaller
loop-left-smaller c = round_less (room c.loop-left.levels c.loop-left.known) c.loop-left.left _ _ c.round-t.ensures.falls c.loop-left.invariant.3 c.loop-left-test.true

pub returns : goal.returns
returns c = (going_end (ready_of c.args.delegations.now c.args.exclude) c.loop-left.invariant.2 c.loop-left.invariant.0 c.loop-left-test.false, c.loop-left.invariant.1)
