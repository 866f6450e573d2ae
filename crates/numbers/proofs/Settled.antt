-- Nothing is lost on the way to C: the numbers handed over settle the answer that they were taken from, and 0 says that nothing was refused.
-- Rests on the laws of numbers (keyline), of levels (power_levels) and of a payload's parts (codec).
use Prim.Native.Nat.{ℕ}
use mathlib.Core.Path.{◌≡◌, refl, ap}
use mathlib.Core.Bool.{Bool, true, false}
use mathlib.Core.List.{List}
use native.Mathlib.Omega.{arith}
use lib.ListN.{length}
use Rattle.std.specs.Prelude.{Result, Ok, Err}
use Rattle.codec.specs.Delegation.{Found, found, decoded, citation_of}
use Rattle.power_levels.specs.declared.power.Power.{Power}
use Rattle.keyline.specs.declared.refusal.Refusal.{Refusal}
use Rattle.power_levels.proofs.Levels.{same_byte}
use Rattle.keyline.proofs.Numbers.{number_range, same_refusal}
use Rattle.codec.proofs.Parts.{parts, refused_citation}
use Rattle.numbers.specs.Numbers.{decode_number, decode_beside, decode_power, decode_citation, encode_number, encode_beside, encode_written}

-- the count that the reader hands over is the length of the citation
pub citation-length : (s : List ℕ) → length (citation_of s) ≡ decode_citation (decoded s)
citation-length s = go (decoded s) refl
  where
    go : (d : Result Found Refusal) → decoded s ≡ d → length (citation_of s) ≡ decode_citation d
    go (Ok (found p t)) e = (parts s p t e).lengths.citation_long
    go (Err r) e = ap length (refused_citation s r e)

-- a citation's length says whether there is one
same_citation : (p q : Power) (t u : Bool) → decode_citation (Ok (found p t)) ≡ decode_citation (Ok (found q u)) → t ≡ u
same_citation p q true true e = refl
same_citation p q true false e = absurd (omega arith)
same_citation p q false true e = absurd (omega arith)
same_citation p q false false e = refl

pub same_decoded : (d e : Result Found Refusal) → decode_number d ≡ decode_number e → decode_beside d ≡ decode_beside e → decode_power d ≡ decode_power e → decode_citation d ≡ decode_citation e → d ≡ e
same_decoded (Ok (found p t)) (Ok (found q u)) n b w c =
    let f : p ≡ q = same_byte p q w in
    let g : t ≡ u = same_citation p q t u c in
    cc
same_decoded (Ok (found p t)) (Err r) n b w c = absurd (omega (arith, (number_range r).0))
same_decoded (Err r) (Ok (found p t)) n b w c = absurd (omega (arith, (number_range r).0))
same_decoded (Err r) (Err q) n b w c = ap Err (same_refusal r q n b)

pub same_encoded : (d e : Result ℕ Refusal) → encode_number d ≡ encode_number e → encode_beside d ≡ encode_beside e → encode_written d ≡ encode_written e → d ≡ e
same_encoded (Ok n) (Ok m) k b w = ap Ok w
same_encoded (Ok n) (Err r) k b w = absurd (omega (arith, (number_range r).0))
same_encoded (Err r) (Ok n) k b w = absurd (omega (arith, (number_range r).0))
same_encoded (Err r) (Err q) k b w = ap Err (same_refusal r q k b)
