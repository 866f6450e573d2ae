-- The checks, in their order.
use mathlib.Core.Path.{◌≡◌, refl, subst, ap, ◌∙◌}
use Rattle.std.specs.Prelude.{ℕ, Bool, true, false, Option, Some, None, is_some, not}
use native.Mathlib.Omega.{arith}
use Rattle.wire.specs.Operation.{is_known}
use Rattle.wire.specs.declared.operation.Operation.{Operation}
use Prim.Native.Nat.{◌<◌}
use lib.ListN.{length}
use Rattle.wire.proofs.Reading.{known_of, whole_step}
use Rattle.wire.specs.Request.{length_of, refused, header, unknown, arguments}
use Rattle.wire.proofs.request.next_step.Goals as goal

-- what `is_none` says of what the first byte says
unsaid : {b : Bool} (o : Option Operation) → is_some o ≡ not b → b ≡ true → is_known o ≡ false
unsaid (Some w) e h = let k : ◌≡◌ {A = Bool} true false = e ∙ ap not h in let z : ◌≡◌ {A = ℕ} 0 1 = cc in absurd (omega arith)
unsaid None e h = refl

said : {b : Bool} (o : Option Operation) → is_some o ≡ not b → b ≡ false → is_known o ≡ true
said (Some w) e h = refl
said None e h = let k : ◌≡◌ {A = Bool} false true = e ∙ ap not h in let z : ◌≡◌ {A = ℕ} 0 1 = cc in absurd (omega arith)

pub returns-then-script-lt-HEADER : goal.returns-then-script-lt-HEADER
returns-then-script-lt-HEADER c = refused (header c.requires c.if-script-lt-HEADER.true)

pub returns-then-is_none : goal.returns-then-is_none
returns-then-is_none c = refused (unknown c.if-script-lt-HEADER.false (known_of c.args.script.now c.read-q.result _ c.read-q.ensures.0 (unsaid c.read-q.result.operation c.is_none.ensures c.if-is_none.true)))

pub returns-then-script-n : goal.returns-then-script-n
returns-then-script-n c = refused (arguments c.if-script-lt-HEADER.false (known_of c.args.script.now c.read-q.result _ c.read-q.ensures.0 (said c.read-q.result.operation c.is_none.ensures c.if-is_none.false)) (subst (λ q. length c.args.script.now < length_of q) c.read-q.ensures.0 c.if-script-n.true))

pub returns : goal.returns
returns c = whole_step c.args.script.now c.read-q.result c.read-q.ensures.0 c.read-q.ensures.1 c.if-script-lt-HEADER.false (known_of c.args.script.now c.read-q.result _ c.read-q.ensures.0 (said c.read-q.result.operation c.is_none.ensures c.if-is_none.false)) c.if-script-n.false
