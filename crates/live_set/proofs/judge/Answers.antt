-- `live_set::judge` meets its contract: one search from the members' subjects.
use Rattle.search.specs.Delegations.{graph_of}
use Rattle.search.proofs.Laws.Complete.{sound_zeros}
use Rattle.live_set.proofs.Laws.Context.{judged_members}
use Rattle.live_set.proofs.judge.Goals as goal

pub search-requires : goal.search-requires
search-requires c = sound_zeros (graph_of c.args.delegations.now c.args.exclude)

pub returns : goal.returns
returns c =
    let a = c.args in
    judged_members (graph_of a.delegations.now a.exclude) a.members c.roots-from.result c.search.result
    a.target.now _ c.roots-from.ensures c.search.ensures.0 c.search.ensures.1 c.reached.ensures
