-- `search::widest::relax_members` meets its contract. The loop's invariant: the words below l have joined.
use native.Mathlib.Omega.{arith}
use Rattle.search.specs.Levels.{word}
use Rattle.search.proofs.Laws.Grow.{grown_set, joins_more}
use Rattle.search.proofs.widest.relax_members.Goals as goal

pub loop-l-preserved : goal.loop-l-preserved
loop-l-preserved c =
    let a = c.args in
    let l = c.loop-l in
    let g = grown_set l.buckets l.l (word a.levels.now a.u l.l) c.union.result (omega arith) c.union.ensures in
    joins_more a.levels.now a.u l.l l.invariant g
