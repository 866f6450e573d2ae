-- `decode` refuses what the definition refuses; what it accepts has the length that its tag asks for, so the rest behind the tag is the citation.
use mathlib.Core.Path.{◌≡◌, refl, sym}
use mathlib.Core.Bool.{true, false}
use Prim.Native.Nat.{◌-◌}
use native.Mathlib.Omega.{arith}
use lib.ListN.{length, take, drop, length-drop}
use lib.Seq.{length-take-le, take_all}
use Rattle.std.proofs.Common.{rules, Ok}
use Rattle.keyline.specs.Limits.{key_length, payload_length}
use Rattle.power_levels.specs.Power.{level_of}
use Rattle.codec.specs.Delegation.{power_byte_of}
use Rattle.codec.proofs.Parts.{is_payload}
use Rattle.codec.proofs.delegation.decode.Goals as goal
use Rattle.codec.proofs.delegation.decode.Goals.{in-0, in-1}

pub slice_bounds-result-end : goal.slice_bounds-result-end
slice_bounds-result-end c = sym (length-take-le key_length c.args.payload.now (omega arith))

pub returns-clause-accepted : goal.returns-clause-accepted
returns-clause-accepted c =
    let s = c.args.payload.now in
    let level : level_of (power_byte_of s) ≡ Ok c.in_ok-power.power = search rules in
    let rest : take (length s - payload_length) (drop payload_length s) ≡ drop payload_length s = take_all (length s - payload_length) (drop payload_length s) (simp length-drop (omega arith)) in
    elim c.match-payload.branch [
      | in-0 w ↦ is_payload s _ false (record { level = level; long = omega arith; tag = w.in-0.is }) refl refl rest
      | in-1 w ↦ is_payload s _ true (record { level = level; long = omega arith; tag = w.in-1.is }) refl refl rest
    ]
