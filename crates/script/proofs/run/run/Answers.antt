-- The checks in their order, then the pass that cannot fail.
use mathlib.Core.Path.{subst}
use Rattle.wire.specs.Request.{Script}
use Rattle.keyline.proofs.HandedOn.{handed_on}
use Rattle.script.specs.Run as run
use Rattle.script.proofs.Performing.{needs_of, fault_of, front_long, run_all}
use Rattle.script.proofs.run.run.Goals as goal

pub returns-then-script-gt-SCRIPT_LIMIT : goal.returns-then-script-gt-SCRIPT_LIMIT
returns-then-script-gt-SCRIPT_LIMIT c = run.too_long c.if-script-gt-SCRIPT_LIMIT.true

pub returns-then-answers-n : goal.returns-then-answers-n
returns-then-answers-n c = run.room c.if-script-gt-SCRIPT_LIMIT.false (needs_of c.measure.ensures c.in_ok-n.was) c.if-answers-n.true

pub perform-requires : goal.perform-requires
perform-requires c = subst (Script c.args.script.now) (front_long c.args.answers.now _ c.if-answers-n.false) (needs_of c.measure.ensures c.in_ok-n.was)

pub returns-in_err-n : goal.returns-in_err-n
returns-in_err-n c =
    rw (handed_on c.from_residual.result c.in_err-n.field-0.0 c.from_residual.ensures.1)
    (run.malformed c.if-script-gt-SCRIPT_LIMIT.false (fault_of c.measure.ensures c.in_err-n.was))

pub returns : goal.returns
returns c = run_all c.args.answers.now _ _ c.if-script-gt-SCRIPT_LIMIT.false (needs_of c.measure.ensures c.in_ok-n.was) c.if-answers-n.false c.perform.ensures
