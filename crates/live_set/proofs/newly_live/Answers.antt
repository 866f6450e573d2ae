-- `live_set::newly_live` meets its contract. The loop's invariant: w has what the first c contexts judge.
use native.Mathlib.Omega.{arith}
use Rattle.keyset.proofs.Laws.{bit_le}
use Rattle.live_set.proofs.Laws.Context.{in_none, in_skip, in_more}
use Rattle.live_set.proofs.newly_live.Invariants.{Judges}
use Rattle.live_set.proofs.newly_live.Goals.{then-m-ne0, else-m-ne0}
use Rattle.live_set.proofs.newly_live.Goals as goal

pub loop-c-init : goal.loop-c-init
loop-c-init c = in_none _ _ _

pub judge-found-requires-clause-within : goal.judge-found-requires-clause-within
judge-found-requires-clause-within c = λ j b. c.requires.within j (omega (arith, c.meet-m.ensures j, bit_le c.args.candidates j))

pub loop-c-preserved : goal.loop-c-preserved
loop-c-preserved c =
    let a = c.args in
    let l = c.loop-c in
    let J = Judges a.contexts.now.exclude a.target.now a.delegations.now in
    elim c.if-m-ne0.branch [
      | then-m-ne0 w ↦
          rw w.w-is
          (in_more a.contexts.now.members a.candidates J l.c l.w c.meet-m.result l.invariant c.meet-m.ensures w.judge-found.result w.union-w.result
          w.judge-found.ensures w.union-w.ensures)
      | else-m-ne0 w ↦ rw w.w-is (in_skip a.contexts.now.members a.candidates J l.c l.w c.meet-m.result l.invariant c.meet-m.ensures w.if-m-ne0.false)
    ]
