-- `search::widest::relax_members` meets its contract. The loop's invariant: the words below l have joined.
use Rattle.search.specs.Walk.{Grown, Joins}
use Rattle.search.proofs.widest.relax_members.Given as goal

abbrev pub invariant-loop-l : goal.invariant-loop-l
invariant-loop-l l = Grown l.initial.buckets l.buckets (Joins l.levels l.u l.l)
