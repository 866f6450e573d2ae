-- Request by request, to the first that is none.
use native.Mathlib.Omega.{arith}
use lib.ListN.{length-drop}
use Rattle.keyline.proofs.HandedOn.{handed_on}
use Rattle.script.proofs.Measuring.{start, by_sizes, step_facts, told, go_on, all_read, no_request}
use Rattle.script.proofs.run.measure.Goals as goal

pub loop-at-init : goal.loop-at-init
loop-at-init c = start c.args.script.now

pub overflow_add-at : goal.overflow_add-at
overflow_add-at c = let v = c.loop-at.invariant.within in let u = c.loop-at.invariant.few in let f = step_facts (by_sizes (told c.args.script.now c.loop-at.at c.loop-at.invariant.within c.next_step.ensures c.in_ok-step.was)) in let a = f.within in let b = f.some in let d = f.few in let z = length-drop c.loop-at.at c.args.script.now in let y = c.requires in omega arith

pub overflow_add-n : goal.overflow_add-n
overflow_add-n c = let v = c.loop-at.invariant.within in let u = c.loop-at.invariant.few in let f = step_facts (by_sizes (told c.args.script.now c.loop-at.at c.loop-at.invariant.within c.next_step.ensures c.in_ok-step.was)) in let a = f.within in let b = f.some in let d = f.few in let z = length-drop c.loop-at.at c.args.script.now in let y = c.requires in omega arith

pub loop-at-smaller : goal.loop-at-smaller
loop-at-smaller c = let v = c.loop-at.invariant.within in let u = c.loop-at.invariant.few in let f = step_facts (by_sizes (told c.args.script.now c.loop-at.at c.loop-at.invariant.within c.next_step.ensures c.in_ok-step.was)) in let a = f.within in let b = f.some in let d = f.few in let z = length-drop c.loop-at.at c.args.script.now in let y = c.requires in omega arith

pub loop-at-preserved : goal.loop-at-preserved
loop-at-preserved c = go_on c.loop-at.invariant (by_sizes (told c.args.script.now c.loop-at.at c.loop-at.invariant.within c.next_step.ensures c.in_ok-step.was))

pub returns-in_err-step : goal.returns-in_err-step
returns-in_err-step c =
    rw (handed_on c.from_residual.result c.in_err-step.field-0.0 c.from_residual.ensures.1)
    (no_request c.loop-at.invariant (told c.args.script.now c.loop-at.at c.loop-at.invariant.within c.next_step.ensures c.in_err-step.was))

pub returns : goal.returns
returns c = all_read c.loop-at.invariant c.loop-at-test.false
