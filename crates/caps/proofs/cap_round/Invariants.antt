-- `caps::cap_round` meets its contract. The loop's invariant: the living members of the first c contexts are raised.
use Rattle.search.specs.Delegations.{graph_of}
use Rattle.caps.specs.Caps.{Lifted}
use Rattle.caps.proofs.cap_round.Given as goal

abbrev pub invariant-loop-c : goal.invariant-loop-c
invariant-loop-c l = Lifted (graph_of l.delegations 0) l.facts.power l.facts.target l.living l.c l.contexts.exclude l.contexts.members l.next
