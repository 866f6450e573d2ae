-- `search::edges::index` meets its contract. The loop's invariant: the index of the first d delegations stands.
use Rattle.search.proofs.Laws.Chain.{Indexing}
use Rattle.search.proofs.edges.index.Given as goal

abbrev pub invariant-loop-d : goal.invariant-loop-d
invariant-loop-d l = Indexing l.issuer l.subject l.d l.issuers l.last l.earlier
