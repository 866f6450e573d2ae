-- `search::widest::relax_edges` meets its contract. The loop's invariant: the pair's delegations from next on are relaxed, and next is one of the pair's, or 0.
use Rattle.search.specs.Index.{indexed_count}
use Rattle.search.specs.Delegations.{graph_of}
use Rattle.search.proofs.Laws.Chain.{Chaining}
use Rattle.search.proofs.widest.relax_edges.Given as goal

abbrev pub invariant-loop-next : goal.invariant-loop-next
invariant-loop-next l =
    Chaining (graph_of l.delegations l.exclude) l.r l.u l.v (indexed_count l.delegations.edges.now.last) l.delegations.edges.now.issuers l.delegations.edges.now.last l.delegations.edges.now.earlier l.delegations.subjects l.initial.buckets l.buckets l.next

abbrev pub decreases-loop-next : goal.decreases-loop-next
decreases-loop-next l = l.next
