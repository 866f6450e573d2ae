-- `live_set::newly_live` meets its contract. The loop's invariant: w has what the first c contexts judge.
use Prim.Native.Nat.{ℕ}
use mathlib.Core.List.{List}
use lib.ListN.{get_or}
use Rattle.search.specs.Sets.{Word}
use Rattle.search.specs.Delegations.{graph_of}
use Rattle.search.specs.declared.delegations.Delegations.{Delegations}
use Rattle.coverage.specs.Contexts.{In}
use Rattle.live_set.specs.Live.{Judged}
use Rattle.live_set.proofs.Laws.Context.{Joining}
use Rattle.live_set.proofs.newly_live.Given as goal

-- judged in the context c
abbrev pub Judges : List ℕ → List ℕ → Delegations → ℕ → ℕ → Type 0
Judges exclude target delegations c j = Judged (graph_of delegations (get_or exclude c 0)) (get_or target j 0)

abbrev pub invariant-loop-c : goal.invariant-loop-c
invariant-loop-c l =
    Word l.w (In l.c l.contexts.members (Joining l.contexts.members l.candidates (Judges l.contexts.exclude l.target l.delegations)))
