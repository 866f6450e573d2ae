-- Request by request: each reply is put behind those before it. In the proof of a need, l is the loop as its turn began and q the request
-- that was read in it.
use Prim.Native.Nat.{◌-◌}
use mathlib.Core.Path.{sym, ap, ◌∙◌, subst}
use native.Mathlib.Omega.{arith}
use lib.ListN.{length, length-drop}
use Rattle.wire.specs.Request.{Script}
use Rattle.wire.specs.declared.operation.Operation.TheVariants as operation
use Rattle.std.specs.Prelude.{Some}
use Rattle.script.specs.Run as run
use Rattle.script.proofs.Measuring.{rest_lent}
use Rattle.script.proofs.Performing.{begin, bounds, asked, renewed, inserted, worked, asked_state, asked_evaluated, says, ending}
use Rattle.script.proofs.Parts.{state_placed, evaluated_placed}
use Rattle.script.proofs.run.perform.Goals as goal

pub loop-at-init : goal.loop-at-init
loop-at-init c = begin c.new-state.ensures c.evaluate-evaluated.ensures.good c.evaluate-evaluated.ensures.held c.requires

pub slice_bounds-next_request-count : goal.slice_bounds-next_request-count
slice_bounds-next_request-count c = let w = c.loop-at.invariant.within in omega arith

pub slice_bounds-next_request-start : goal.slice_bounds-next_request-start
slice_bounds-next_request-start c = let w = c.loop-at.invariant.within in omega arith

pub slice_bounds-next_request-end : goal.slice_bounds-next_request-end
slice_bounds-next_request-end c = let w = c.loop-at.invariant.within in omega arith

pub overflow_sub-answers : goal.overflow_sub-answers
overflow_sub-answers c = let r = c.loop-at.invariant.room in omega arith

pub next_request-q-requires : goal.next_request-q-requires
next_request-q-requires c = let l = c.loop-at in let s = c.args.script.now in let e = rest_lent s l.at l.invariant.within in (subst (λ z. Script z (length l.answers - l.done)) (sym e) l.invariant.todo, rw (e, length-drop l.at s) (omega (arith, c.loop-at-test.true)))

pub overflow_add-at : goal.overflow_add-at
overflow_add-at c = let l = c.loop-at in let q = c.next_request-q in let b = bounds l.invariant q.ensures in let u = b.script in let v = b.answers in let m = l.invariant.long in let g = c.well_formed.0 in let k = c.well_formed.1.0 in omega arith

pub overflow_add-at-in-loop-at : goal.overflow_add-at-in-loop-at
overflow_add-at-in-loop-at c = let l = c.loop-at in let q = c.next_request-q in let b = bounds l.invariant q.ensures in let u = b.script in let v = b.answers in let m = l.invariant.long in let g = c.well_formed.0 in let k = c.well_formed.1.0 in omega arith

pub overflow_add-at-in-loop-at-2 : goal.overflow_add-at-in-loop-at-2
overflow_add-at-in-loop-at-2 c = let l = c.loop-at in let q = c.next_request-q in let b = bounds l.invariant q.ensures in let u = b.script in let v = b.answers in let m = l.invariant.long in let g = c.well_formed.0 in let k = c.well_formed.1.0 in omega arith

pub overflow_add-at-in-loop-at-3 : goal.overflow_add-at-in-loop-at-3
overflow_add-at-in-loop-at-3 c = let l = c.loop-at in let q = c.next_request-q in let b = bounds l.invariant q.ensures in let u = b.script in let v = b.answers in let m = l.invariant.long in let g = c.well_formed.0 in let k = c.well_formed.1.0 in omega arith

pub overflow_add-done : goal.overflow_add-done
overflow_add-done c = let l = c.loop-at in let q = c.next_request-q in let b = bounds l.invariant q.ensures in let u = b.script in let v = b.answers in let m = l.invariant.long in let g = c.well_formed.0 in let k = c.well_formed.1.0 in omega arith

pub overflow_add-done-in-loop-at : goal.overflow_add-done-in-loop-at
overflow_add-done-in-loop-at c = let l = c.loop-at in let q = c.next_request-q in let b = bounds l.invariant q.ensures in let u = b.script in let v = b.answers in let m = l.invariant.long in let g = c.well_formed.0 in let k = c.well_formed.1.0 in omega arith

pub overflow_add-done-in-loop-at-2 : goal.overflow_add-done-in-loop-at-2
overflow_add-done-in-loop-at-2 c = let l = c.loop-at in let q = c.next_request-q in let b = bounds l.invariant q.ensures in let u = b.script in let v = b.answers in let m = l.invariant.long in let g = c.well_formed.0 in let k = c.well_formed.1.0 in omega arith

pub slice_bounds-answer_done-count : goal.slice_bounds-answer_done-count
slice_bounds-answer_done-count c = let l = c.loop-at in let q = c.next_request-q in let b = bounds l.invariant q.ensures in let u = b.script in let v = b.answers in omega arith

pub slice_bounds-answer_done-start : goal.slice_bounds-answer_done-start
slice_bounds-answer_done-start c = let l = c.loop-at in let q = c.next_request-q in let b = bounds l.invariant q.ensures in let u = b.script in let v = b.answers in omega arith

pub slice_bounds-answer_done-end : goal.slice_bounds-answer_done-end
slice_bounds-answer_done-end c = let l = c.loop-at in let q = c.next_request-q in let b = bounds l.invariant q.ensures in let u = b.script in let v = b.answers in omega arith

pub answer_done-requires : goal.answer_done-requires
answer_done-requires c = let l = c.loop-at in let q = c.next_request-q in let a = asked l.invariant q.ensures in (a.long, a.other)

pub loop-at-smaller-in-New : goal.loop-at-smaller-in-New
loop-at-smaller-in-New c = let l = c.loop-at in let q = c.next_request-q in let b = bounds l.invariant q.ensures in let u = b.script in let v = b.answers in omega arith

pub loop-at-preserved-in-New : goal.loop-at-preserved-in-New
loop-at-preserved-in-New c =
    let l = c.loop-at in let q = c.next_request-q in let a = asked l.invariant q.ensures in
    renewed l.invariant q.ensures (c.in-Some-Change.is ∙ ap (λ w. Some w) (rw c.in-Some-Change.is at c.in-Some-Change.field-0-is) ∙ ap (λ w. Some (operation.Change w)) c.in-New.is) c.new-state-in-New.ensures (omega (arith, c.answers-1.given, a.long)) c.answer_done.ensures

pub slice_bounds-insert_delegation-count : goal.slice_bounds-insert_delegation-count
slice_bounds-insert_delegation-count c = let l = c.loop-at in let q = c.next_request-q in let b = bounds l.invariant q.ensures in let u = b.script in let v = b.answers in omega arith

pub slice_bounds-insert_delegation-start : goal.slice_bounds-insert_delegation-start
slice_bounds-insert_delegation-start c = let l = c.loop-at in let q = c.next_request-q in let b = bounds l.invariant q.ensures in let u = b.script in let v = b.answers in omega arith

pub slice_bounds-insert_delegation-end : goal.slice_bounds-insert_delegation-end
slice_bounds-insert_delegation-end c = let l = c.loop-at in let q = c.next_request-q in let b = bounds l.invariant q.ensures in let u = b.script in let v = b.answers in omega arith

pub insert_delegation-told-requires : goal.insert_delegation-told-requires
insert_delegation-told-requires c = let l = c.loop-at in let q = c.next_request-q in (q.ensures.is, q.ensures.within)

pub slice_bounds-answer_inserted-count : goal.slice_bounds-answer_inserted-count
slice_bounds-answer_inserted-count c = let l = c.loop-at in let q = c.next_request-q in let b = bounds l.invariant q.ensures in let u = b.script in let v = b.answers in omega arith

pub slice_bounds-answer_inserted-start : goal.slice_bounds-answer_inserted-start
slice_bounds-answer_inserted-start c = let l = c.loop-at in let q = c.next_request-q in let b = bounds l.invariant q.ensures in let u = b.script in let v = b.answers in omega arith

pub slice_bounds-answer_inserted-end : goal.slice_bounds-answer_inserted-end
slice_bounds-answer_inserted-end c = let l = c.loop-at in let q = c.next_request-q in let b = bounds l.invariant q.ensures in let u = b.script in let v = b.answers in omega arith

pub answer_inserted-requires : goal.answer_inserted-requires
answer_inserted-requires c = let l = c.loop-at in let q = c.next_request-q in let a = asked l.invariant q.ensures in (a.long, a.other)

pub loop-at-smaller-in-InsertDelegation : goal.loop-at-smaller-in-InsertDelegation
loop-at-smaller-in-InsertDelegation c = let l = c.loop-at in let q = c.next_request-q in let b = bounds l.invariant q.ensures in let u = b.script in let v = b.answers in omega arith

pub loop-at-preserved-in-InsertDelegation : goal.loop-at-preserved-in-InsertDelegation
loop-at-preserved-in-InsertDelegation c =
    let l = c.loop-at in let q = c.next_request-q in let a = asked l.invariant q.ensures in let i = c.insert_delegation-told.ensures in
    inserted l.invariant q.ensures run.insert_delegation i (c.in-Some-Change.is ∙ ap (λ w. Some w) (rw c.in-Some-Change.is at c.in-Some-Change.field-0-is) ∙ ap (λ w. Some (operation.Change w)) c.in-InsertDelegation.is) (omega (arith, c.answers-in-InsertDelegation-1.given, a.long)) c.answer_inserted.ensures

pub slice_bounds-insert_revocation-count : goal.slice_bounds-insert_revocation-count
slice_bounds-insert_revocation-count c = let l = c.loop-at in let q = c.next_request-q in let b = bounds l.invariant q.ensures in let u = b.script in let v = b.answers in omega arith

pub slice_bounds-insert_revocation-start : goal.slice_bounds-insert_revocation-start
slice_bounds-insert_revocation-start c = let l = c.loop-at in let q = c.next_request-q in let b = bounds l.invariant q.ensures in let u = b.script in let v = b.answers in omega arith

pub slice_bounds-insert_revocation-end : goal.slice_bounds-insert_revocation-end
slice_bounds-insert_revocation-end c = let l = c.loop-at in let q = c.next_request-q in let b = bounds l.invariant q.ensures in let u = b.script in let v = b.answers in omega arith

pub insert_revocation-told-requires : goal.insert_revocation-told-requires
insert_revocation-told-requires c = let l = c.loop-at in let q = c.next_request-q in (q.ensures.is, q.ensures.within)

pub slice_bounds-answer_inserted-count-in-InsertRevocation : goal.slice_bounds-answer_inserted-count-in-InsertRevocation
slice_bounds-answer_inserted-count-in-InsertRevocation c = let l = c.loop-at in let q = c.next_request-q in let b = bounds l.invariant q.ensures in let u = b.script in let v = b.answers in omega arith

pub slice_bounds-answer_inserted-start-in-InsertRevocation : goal.slice_bounds-answer_inserted-start-in-InsertRevocation
slice_bounds-answer_inserted-start-in-InsertRevocation c = let l = c.loop-at in let q = c.next_request-q in let b = bounds l.invariant q.ensures in let u = b.script in let v = b.answers in omega arith

pub slice_bounds-answer_inserted-end-in-InsertRevocation : goal.slice_bounds-answer_inserted-end-in-InsertRevocation
slice_bounds-answer_inserted-end-in-InsertRevocation c = let l = c.loop-at in let q = c.next_request-q in let b = bounds l.invariant q.ensures in let u = b.script in let v = b.answers in omega arith

pub answer_inserted-requires-in-InsertRevocation : goal.answer_inserted-requires-in-InsertRevocation
answer_inserted-requires-in-InsertRevocation c = let l = c.loop-at in let q = c.next_request-q in let a = asked l.invariant q.ensures in (a.long, a.other)

pub loop-at-smaller-in-InsertRevocation : goal.loop-at-smaller-in-InsertRevocation
loop-at-smaller-in-InsertRevocation c = let l = c.loop-at in let q = c.next_request-q in let b = bounds l.invariant q.ensures in let u = b.script in let v = b.answers in omega arith

pub loop-at-preserved-in-InsertRevocation : goal.loop-at-preserved-in-InsertRevocation
loop-at-preserved-in-InsertRevocation c =
    let l = c.loop-at in let q = c.next_request-q in let a = asked l.invariant q.ensures in let i = c.insert_revocation-told.ensures in
    inserted l.invariant q.ensures run.insert_revocation i (c.in-Some-Change.is ∙ ap (λ w. Some w) (rw c.in-Some-Change.is at c.in-Some-Change.field-0-is) ∙ ap (λ w. Some (operation.Change w)) c.in-InsertRevocation.is) (omega (arith, c.answers-in-InsertRevocation-1.given, a.long)) c.answer_inserted-in-InsertRevocation.ensures

pub slice_bounds-answer_done-count-in-Some-Evaluate : goal.slice_bounds-answer_done-count-in-Some-Evaluate
slice_bounds-answer_done-count-in-Some-Evaluate c = let l = c.loop-at in let q = c.next_request-q in let b = bounds l.invariant q.ensures in let u = b.script in let v = b.answers in omega arith

pub slice_bounds-answer_done-start-in-Some-Evaluate : goal.slice_bounds-answer_done-start-in-Some-Evaluate
slice_bounds-answer_done-start-in-Some-Evaluate c = let l = c.loop-at in let q = c.next_request-q in let b = bounds l.invariant q.ensures in let u = b.script in let v = b.answers in omega arith

pub slice_bounds-answer_done-end-in-Some-Evaluate : goal.slice_bounds-answer_done-end-in-Some-Evaluate
slice_bounds-answer_done-end-in-Some-Evaluate c = let l = c.loop-at in let q = c.next_request-q in let b = bounds l.invariant q.ensures in let u = b.script in let v = b.answers in omega arith

pub answer_done-requires-in-Some-Evaluate : goal.answer_done-requires-in-Some-Evaluate
answer_done-requires-in-Some-Evaluate c = let l = c.loop-at in let q = c.next_request-q in let a = asked l.invariant q.ensures in (a.long, a.other)

pub loop-at-smaller-in-Some-Evaluate : goal.loop-at-smaller-in-Some-Evaluate
loop-at-smaller-in-Some-Evaluate c = let l = c.loop-at in let q = c.next_request-q in let b = bounds l.invariant q.ensures in let u = b.script in let v = b.answers in omega arith

pub loop-at-preserved-in-Some-Evaluate : goal.loop-at-preserved-in-Some-Evaluate
loop-at-preserved-in-Some-Evaluate c =
    let l = c.loop-at in let q = c.next_request-q in let a = asked l.invariant q.ensures in
    worked l.invariant q.ensures (c.in-Some-Evaluate.is ∙ ap (λ w. Some w) (rw c.in-Some-Evaluate.is at c.in-Some-Evaluate.field-0-is)) c.evaluate-evaluated-in-Some-Evaluate.ensures.good c.evaluate-evaluated-in-Some-Evaluate.ensures.held (omega (arith, c.answers-in-Some-Evaluate-1.given, a.long)) c.answer_done-in-Some-Evaluate.ensures

pub slice_bounds-answer_asked-count : goal.slice_bounds-answer_asked-count
slice_bounds-answer_asked-count c = let l = c.loop-at in let q = c.next_request-q in let b = bounds l.invariant q.ensures in let u = b.script in let v = b.answers in omega arith

pub slice_bounds-answer_asked-start : goal.slice_bounds-answer_asked-start
slice_bounds-answer_asked-start c = let l = c.loop-at in let q = c.next_request-q in let b = bounds l.invariant q.ensures in let u = b.script in let v = b.answers in omega arith

pub slice_bounds-answer_asked-end : goal.slice_bounds-answer_asked-end
slice_bounds-answer_asked-end c = let l = c.loop-at in let q = c.next_request-q in let b = bounds l.invariant q.ensures in let u = b.script in let v = b.answers in omega arith

pub slice_bounds-answer_asked-count-in-Some-OfState : goal.slice_bounds-answer_asked-count-in-Some-OfState
slice_bounds-answer_asked-count-in-Some-OfState c = let l = c.loop-at in let q = c.next_request-q in let b = bounds l.invariant q.ensures in let u = b.script in let v = b.answers in omega arith

pub slice_bounds-answer_asked-start-in-Some-OfState : goal.slice_bounds-answer_asked-start-in-Some-OfState
slice_bounds-answer_asked-start-in-Some-OfState c = let l = c.loop-at in let q = c.next_request-q in let b = bounds l.invariant q.ensures in let u = b.script in let v = b.answers in omega arith

pub slice_bounds-answer_asked-end-in-Some-OfState : goal.slice_bounds-answer_asked-end-in-Some-OfState
slice_bounds-answer_asked-end-in-Some-OfState c = let l = c.loop-at in let q = c.next_request-q in let b = bounds l.invariant q.ensures in let u = b.script in let v = b.answers in omega arith

pub answer_asked-requires : goal.answer_asked-requires
answer_asked-requires c = let l = c.loop-at in let q = c.next_request-q in record { good = tt; fits = asked l.invariant q.ensures }

pub loop-at-smaller-in-Some-OfState : goal.loop-at-smaller-in-Some-OfState
loop-at-smaller-in-Some-OfState c = let l = c.loop-at in let q = c.next_request-q in let b = bounds l.invariant q.ensures in let u = b.script in let v = b.answers in omega arith

pub loop-at-preserved-in-Some-OfState : goal.loop-at-preserved-in-Some-OfState
loop-at-preserved-in-Some-OfState c =
    let l = c.loop-at in let q = c.next_request-q in let a = asked l.invariant q.ensures in
    asked_state l.invariant q.ensures (c.in-Some-OfState.is ∙ ap (λ w. Some w) (rw c.in-Some-OfState.is at c.in-Some-OfState.field-0-is)) (omega (arith, c.answers-in-Some-OfState-1.given, a.long)) (state_placed c.answer_asked.ensures)

pub slice_bounds-answer_asked-count-in-Some-OfEvaluated : goal.slice_bounds-answer_asked-count-in-Some-OfEvaluated
slice_bounds-answer_asked-count-in-Some-OfEvaluated c = let l = c.loop-at in let q = c.next_request-q in let b = bounds l.invariant q.ensures in let u = b.script in let v = b.answers in omega arith

pub slice_bounds-answer_asked-start-in-Some-OfEvaluated : goal.slice_bounds-answer_asked-start-in-Some-OfEvaluated
slice_bounds-answer_asked-start-in-Some-OfEvaluated c = let l = c.loop-at in let q = c.next_request-q in let b = bounds l.invariant q.ensures in let u = b.script in let v = b.answers in omega arith

pub slice_bounds-answer_asked-end-in-Some-OfEvaluated : goal.slice_bounds-answer_asked-end-in-Some-OfEvaluated
slice_bounds-answer_asked-end-in-Some-OfEvaluated c = let l = c.loop-at in let q = c.next_request-q in let b = bounds l.invariant q.ensures in let u = b.script in let v = b.answers in omega arith

pub slice_bounds-answer_asked-count-in-Some-OfEvaluated-2 : goal.slice_bounds-answer_asked-count-in-Some-OfEvaluated-2
slice_bounds-answer_asked-count-in-Some-OfEvaluated-2 c = let l = c.loop-at in let q = c.next_request-q in let b = bounds l.invariant q.ensures in let u = b.script in let v = b.answers in omega arith

pub slice_bounds-answer_asked-start-in-Some-OfEvaluated-2 : goal.slice_bounds-answer_asked-start-in-Some-OfEvaluated-2
slice_bounds-answer_asked-start-in-Some-OfEvaluated-2 c = let l = c.loop-at in let q = c.next_request-q in let b = bounds l.invariant q.ensures in let u = b.script in let v = b.answers in omega arith

pub slice_bounds-answer_asked-end-in-Some-OfEvaluated-2 : goal.slice_bounds-answer_asked-end-in-Some-OfEvaluated-2
slice_bounds-answer_asked-end-in-Some-OfEvaluated-2 c = let l = c.loop-at in let q = c.next_request-q in let b = bounds l.invariant q.ensures in let u = b.script in let v = b.answers in omega arith

pub answer_asked-requires-in-Some-OfEvaluated : goal.answer_asked-requires-in-Some-OfEvaluated
answer_asked-requires-in-Some-OfEvaluated c = let l = c.loop-at in let q = c.next_request-q in record { good = l.invariant.worked_out; fits = asked l.invariant q.ensures }

pub loop-at-smaller-in-Some-OfEvaluated : goal.loop-at-smaller-in-Some-OfEvaluated
loop-at-smaller-in-Some-OfEvaluated c = let l = c.loop-at in let q = c.next_request-q in let b = bounds l.invariant q.ensures in let u = b.script in let v = b.answers in omega arith

pub loop-at-preserved-in-Some-OfEvaluated : goal.loop-at-preserved-in-Some-OfEvaluated
loop-at-preserved-in-Some-OfEvaluated c =
    let l = c.loop-at in let q = c.next_request-q in let a = asked l.invariant q.ensures in
    asked_evaluated l.invariant q.ensures (c.in-Some-OfEvaluated.is ∙ ap (λ w. Some w) (rw c.in-Some-OfEvaluated.is at c.in-Some-OfEvaluated.field-0-is)) (omega (arith, c.answers-in-Some-OfEvaluated-1.given, a.long)) (evaluated_placed c.answer_asked-in-Some-OfEvaluated.ensures)

pub loop-at-smaller : goal.loop-at-smaller
loop-at-smaller c = let l = c.loop-at in let q = c.next_request-q in let b = bounds l.invariant q.ensures in let u = b.script in let v = b.answers in omega arith

pub loop-at-preserved : goal.loop-at-preserved
loop-at-preserved c = absurd (says c.next_request-q.ensures c.in-None.is)

pub shape_of-answers : goal.shape_of-answers
shape_of-answers c = c.loop-at.invariant.long

pub returns : goal.returns
returns c = ending c.loop-at.invariant c.loop-at-test.false
