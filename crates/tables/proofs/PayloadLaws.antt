-- The parts of an accepted payload are as long as keys and citations are. Rests on what the payload's reader is proved to find.
use Prim.Native.Nat.{◌+◌, ◌≤◌}
use mathlib.Core.Path.{◌≡◌, refl}
use mathlib.Core.Bool.{Bool, true, false}
use mathlib.Core.Logic.{◌⊎◌, inl, inr}
use native.Mathlib.Omega.{arith}
use lib.ListN.{length, take, drop, length-drop}
use lib.Seq.{length-take-le}
use Rattle.std.specs.Prelude.{Ok}
use Rattle.codec.specs.Delegation.{found, decoded, citation_of}
use Rattle.power_levels.specs.declared.power.Power.{Power}
use Rattle.codec.proofs.Reading.{sound}
use Rattle.runs.specs.Bytes.{Bytes}
use Rattle.keyline.specs.Limits.{key_length, digest_length}

-- a citation is empty, or a digest
abbrev pub Cited : Bytes → Type 0
Cited c = (length c ≡ 0) ⊎ (length c ≡ digest_length)

pub record Parts (p : Bytes) : Type 0 where
  pub long : key_length + key_length ≤ length p
  pub audience : length (take key_length p) ≡ key_length
  pub subject : length (take key_length (drop key_length p)) ≡ key_length
  pub citation : Cited (citation_of p)

pub parts : (p : Bytes) (w : Power) (t : Bool) → decoded p ≡ Ok (found w t) → Parts p
unfolding citation_of
parts p w true e =
    let f : length p ≡ 98 = (sound p w true e).long in
    record {
      long = omega arith;
      audience = length-take-le key_length p (omega arith);
      subject = length-take-le key_length (drop key_length p) (simp length-drop (omega arith));
      citation = rw e (inr (length-take-le 32 (drop 66 p) (simp length-drop (omega arith))));
    }
parts p w false e =
    let f : length p ≡ 66 = (sound p w false e).long in
    record {
      long = omega arith;
      audience = length-take-le key_length p (omega arith);
      subject = length-take-le key_length (drop key_length p) (simp length-drop (omega arith));
      citation = rw e (inl refl);
    }
