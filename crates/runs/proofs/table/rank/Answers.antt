-- The run's spot lies between low and high; the run in the middle of the order says on which side.
use Prim.Native.Nat.{zero-le, ◌+◌, ◌-◌, ◌/◌}
use mathlib.Core.Path.{sym, ◌∙◌}
use native.Mathlib.Omega.{arith}
use native.Mathlib.Nat.{le_antisymm}
use Rattle.runs.proofs.TableLaws.{spot_within, there_fits, there_above, there_not}
use Rattle.runs.proofs.table.rank.Goals as goal

pub overflow_mul-start : goal.overflow_mul-start
overflow_mul-start c = omega arith

pub loop-low-init : goal.loop-low-init
loop-low-init c = (zero-le, spot_within c.args.limit c.args.table.now c.args.n c.requires c.args.run.now, omega arith)

pub overflow_sub-mid : goal.overflow_sub-mid
overflow_sub-mid c = omega arith

pub overflow_add-mid : goal.overflow_add-mid
overflow_add-mid c = omega arith

pub overflow_add-start : goal.overflow_add-start
overflow_add-start c = omega arith

pub bounds-table-start : goal.bounds-table-start
bounds-table-start c = omega arith

pub less_at-requires : goal.less_at-requires
less_at-requires c =
    let l = c.loop-low in
    there_fits c.args.limit c.args.table.now c.args.n c.requires (l.low + (l.high - l.low) / 2) (omega arith) c.from-i.result c.from-i.ensures

pub overflow_add-low : goal.overflow_add-low
overflow_add-low c = omega arith

pub loop-low-smaller-then-less_at : goal.loop-low-smaller-then-less_at
loop-low-smaller-then-less_at c = omega arith

pub loop-low-preserved-then-less_at : goal.loop-low-preserved-then-less_at
loop-low-preserved-then-less_at c =
    let l = c.loop-low in
    let h =
    there_above c.args.limit c.args.table.now c.args.n c.requires (l.low + (l.high - l.low) / 2) (omega arith) c.from-i.result c.from-i.ensures
    c.args.run.now (sym c.less_at.ensures ∙ c.if-less_at.true) in
    (omega arith, l.invariant.1, l.invariant.2)

pub loop-low-smaller : goal.loop-low-smaller
loop-low-smaller c = omega arith

pub loop-low-preserved : goal.loop-low-preserved
loop-low-preserved c =
    let l = c.loop-low in
    let h =
    there_not c.args.limit c.args.table.now c.args.n c.requires (l.low + (l.high - l.low) / 2) (omega arith) c.from-i.result c.from-i.ensures
    c.args.run.now (sym c.less_at.ensures ∙ c.if-less_at.false) in
    (l.invariant.0, h, omega arith)

pub returns : goal.returns
returns c = let l = c.loop-low in let h = c.loop-low-test.false in le_antisymm l.invariant.0 (omega arith)
