-- Request by request: each reply is put behind those before it. In the proof of a need, l is the loop as its turn began and q the request
-- that was read in it.
use Prim.Native.Nat.{◌-◌}
use lib.ListN.{length}
use Rattle.script.proofs.Performing.{Performing}
use Rattle.script.proofs.run.perform.Given as goal

abbrev pub invariant-loop-at : goal.invariant-loop-at
invariant-loop-at l = Performing l.script l.initial.answers l.answers l.state l.evaluated l.at l.done

abbrev pub decreases-loop-at : goal.decreases-loop-at
decreases-loop-at l = length l.script - l.at
