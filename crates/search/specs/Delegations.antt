-- What is lent to a search, as a graph. Assumes nothing.
use Rattle.std.specs.Prelude.{ℕ}
use Rattle.search.specs.Graph.{Graph, graph}
use Rattle.search.specs.declared.delegations.Delegations.{Delegations}

-- the usable delegations, with the keys of exclude left out
abbrev pub graph_of : Delegations → ℕ → Graph
graph_of d exclude = graph d.issuer.now d.audience.now d.subject.now d.grades.now exclude
