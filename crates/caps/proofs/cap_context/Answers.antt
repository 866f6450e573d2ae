-- `caps::cap_context` meets its contract: one search from the members' subjects.
use Rattle.search.specs.Delegations.{graph_of}
use Rattle.search.proofs.Laws.Complete.{sound_zeros}
use Rattle.caps.proofs.Laws.Caps.{raised_members}
use Rattle.caps.proofs.cap_context.Goals as goal

pub search-requires : goal.search-requires
search-requires c = sound_zeros (graph_of c.args.delegations.now c.args.exclude)

pub returns : goal.returns
returns c =
    let a = c.args in
    raised_members (graph_of a.delegations.now a.exclude) a.members c.roots-from.result c.search.result
    a.facts.now.target _ c.roots-from.ensures c.search.ensures.0 c.search.ensures.1 c.raise.ensures
