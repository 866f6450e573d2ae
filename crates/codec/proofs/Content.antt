-- Which payloads are accepted, and when two of them are the same: by the bytes or by the parts, it comes to one. Document 01's Conflict
-- compares "issuer and payload"; a table that holds the parts compares the same thing. Rests on Parts.
use Prim.Native.Nat.{ℕ}
use mathlib.Core.Path.{◌≡◌, sym, ap, ◌∙◌}
use mathlib.Core.Bool.{Bool}
use mathlib.Core.List.{List}
use Rattle.std.specs.Prelude.{Result, Ok}
use Rattle.power_levels.specs.Power.{byte_of}
use Rattle.codec.specs.Delegation.{Found, found, audience_of, subject_of, power_byte_of, decoded, citation_of, encoded}
use Rattle.power_levels.specs.declared.power.Power.{Power}
use Rattle.keyline.specs.declared.refusal.Refusal.{Refusal}
use Rattle.power_levels.proofs.Levels.{level_byte, same_byte}
use Rattle.codec.proofs.Parts.{RightLengths, has_parts, parts}

-- s is the encoding of an audience, a subject, the level p and, where t says so, a citation, each of its right length
pub record Encodes (s : List ℕ) (p : Power) (t : Bool) : Type 0 where
  pub audience : List ℕ
  pub subject : List ℕ
  pub citation : List ℕ
  pub lengths : RightLengths audience subject citation t
  pub bytes : s ≡ encoded audience subject (byte_of p) citation

-- The reader accepts those, and nothing else.
pub encodes_accepted : (s : List ℕ) (p : Power) (t : Bool) → Encodes s p t → decoded s ≡ Ok (found p t)
encodes_accepted s p t k = ap decoded k.bytes ∙ (has_parts k.audience k.subject (byte_of p) k.citation p t k.lengths (level_byte p)).accepted

pub accepted_encodes : (s : List ℕ) (p : Power) (t : Bool) → decoded s ≡ Ok (found p t) → Encodes s p t
accepted_encodes s p t e =
    let k = parts s p t e in
    record { audience = audience_of s; subject = subject_of s; citation = citation_of s; lengths = k.lengths; bytes = sym k.whole }

-- Two accepted payloads s and r, at the levels p and q, with the same parts
pub record SameParts (s r : List ℕ) (p q : Power) : Type 0 where
  pub audience : audience_of s ≡ audience_of r
  pub subject : subject_of s ≡ subject_of r
  pub power : p ≡ q
  pub citation : citation_of s ≡ citation_of r

-- Equal parts, equal bytes; and equal bytes, equal parts.
pub same_bytes : (s r : List ℕ) (p q : Power) (t u : Bool) → decoded s ≡ Ok (found p t) → decoded r ≡ Ok (found q u) → SameParts s r p q → s ≡ r
same_bytes s r p q t u e f k = sym (parts s p t e).whole ∙ rw (k.audience, k.subject, k.power, k.citation) (parts r q u f).whole

pub same_parts : (s r : List ℕ) (p q : Power) (t u : Bool) → decoded s ≡ Ok (found p t) → decoded r ≡ Ok (found q u) → s ≡ r → SameParts s r p q
same_parts s r p q t u e f k =
    let g : ◌≡◌ {A = Result Found Refusal} (Ok (found p t)) (Ok (found q u)) = sym e ∙ ap decoded k ∙ f in
    record { audience = ap audience_of k; subject = ap subject_of k; power = cc; citation = ap citation_of k }

-- The same of parts that are held apart: one payload is not the encoding of two.
pub record OneEncoding (a a' s s' : List ℕ) (p p' : Power) (c c' : List ℕ) : Type 0 where
  pub audience : a ≡ a'
  pub subject : s ≡ s'
  pub power : p ≡ p'
  pub citation : c ≡ c'

pub encoded_once : (a a' s s' : List ℕ) (p p' : Power) (c c' : List ℕ) (t t' : Bool) → RightLengths a s c t → RightLengths a' s' c' t'
    → encoded a s (byte_of p) c ≡ encoded a' s' (byte_of p') c' → OneEncoding a a' s s' p p' c c'
encoded_once a a' s s' p p' c c' t t' k k' e =
    let h = has_parts a s (byte_of p) c p t k (level_byte p) in
    let h' = has_parts a' s' (byte_of p') c' p' t' k' (level_byte p') in
    record {
      audience = sym h.same_audience ∙ ap audience_of e ∙ h'.same_audience;
      subject = sym h.same_subject ∙ ap subject_of e ∙ h'.same_subject;
      power = same_byte p p' (sym h.same_power ∙ ap power_byte_of e ∙ h'.same_power);
      citation = sym h.same_citation ∙ ap citation_of e ∙ h'.same_citation;
    }
