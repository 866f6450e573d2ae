-- A payload and its parts. `encoded` of parts of the right lengths is accepted and has those parts (`has_parts`); an accepted payload is
-- `encoded` of its own parts, which have the right lengths (`parts`). Rests on Reading.
use Prim.Native.Nat.{ℕ, suc, ◌+◌, ◌-◌, ◌≤◌}
use mathlib.Core.Path.{◌≡◌, refl, sym, ap, ◌∙◌}
use mathlib.Core.Bool.{Bool, true, false}
use mathlib.Core.List.{List, [], ◌∷◌, ◌++◌, append_assoc}
use native.Mathlib.Omega.{arith}
use lib.ListN.{length, drop, length-append, length-drop, take-append-drop, drop_of_length-le}
use lib.Seq.{get_or_at, take_at, drop_at, drop-cons, drop-drop, take_all, append_snoc, length-take-le}
use Rattle.std.specs.Prelude.{Ok, Err}
use Rattle.keyline.specs.Limits.{key_length, digest_length, power_at, tag_at, payload_length}
use Rattle.power_levels.specs.Power.{level_of, byte_of}
use Rattle.codec.specs.Delegation.{found, IsPayload, audience_of, subject_of, power_byte_of, tag_byte_of, decoded, cited, citation_of, tag_for, encoded}
use Rattle.power_levels.specs.declared.power.Power.{Power}
use Rattle.keyline.specs.declared.refusal.Refusal.{Refusal}
use Rattle.codec.specs.declared.delegation.Payload.{Payload}
use Rattle.power_levels.proofs.Levels.{byte_level}
use Rattle.codec.proofs.Reading.{tagWith, lengthWith, citation_with, at_least_base, Accepts, sound, complete}

-- parts of the right lengths; t says whether there is a citation
pub record RightLengths (audience subject citation : List ℕ) (t : Bool) : Type 0 where
  pub audience_long : length audience ≡ key_length
  pub subject_long : length subject ≡ key_length
  pub citation_long : length citation ≡ citation_with t

-- w is an accepted payload with these parts
pub record HasParts (w audience subject : List ℕ) (power : ℕ) (citation : List ℕ) (p : Power) (t : Bool) : Type 0 where
  pub long : length w ≡ lengthWith t
  pub accepted : decoded w ≡ Ok (found p t)
  pub same_audience : audience_of w ≡ audience
  pub same_subject : subject_of w ≡ subject
  pub same_power : power_byte_of w ≡ power
  pub same_citation : citation_of w ≡ citation

-- the tag and the length that go with a citation's length
tag-with : (n : ℕ) (t : Bool) → n ≡ citation_with t → tag_for n ≡ tagWith t
unfolding tag_for
tag-with n true e = rw e
tag-with n false e = rw e

length-with : (a s c : ℕ) (t : Bool) → a ≡ key_length → s ≡ key_length → c ≡ citation_with t → (a + s) + suc (suc c) ≡ lengthWith t
length-with a s c true ea es ec = omega arith
length-with a s c false ea es ec = omega arith

no_bytes : (l : List ℕ) → length l ≡ 0 → [] ≡ l
no_bytes [] e = refl
no_bytes (x ∷ l) e = absurd (omega arith)

-- From the parts to the payload. `keys` is the audience and the subject, which end where the power byte stands.
module _ (a s : List ℕ) (b : ℕ) (c : List ℕ) (p : Power) (t : Bool) (r : RightLengths a s c t) (l : level_of b ≡ Ok p) where
  keys : List ℕ
  keys = a ++ s

  keys_long : length keys ≡ power_at
  unfolding keys
  keys_long = let h = r.audience_long in let g = r.subject_long in simp length-append (omega arith)

  by_keys : encoded a s b c ≡ keys ++ (b ∷ tag_for (length c) ∷ c)
  unfolding encoded keys
  by_keys = sym (append_assoc a s (b ∷ tag_for (length c) ∷ c))

  long : length (encoded a s b c) ≡ lengthWith t
  unfolding keys
  long = rw by_keys (simp length-append (length-with (length a) (length s) (length c) t r.audience_long r.subject_long r.citation_long))

  audience_back : audience_of (encoded a s b c) ≡ a
  unfolding encoded
  audience_back = take_at a _ key_length r.audience_long

  subject_back : subject_of (encoded a s b c) ≡ s
  unfolding encoded
  subject_back = rw (drop_at a (s ++ (b ∷ tag_for (length c) ∷ c)) key_length r.audience_long) (take_at s _ key_length r.subject_long)

  power_back : power_byte_of (encoded a s b c) ≡ b
  power_back = rw by_keys (get_or_at keys b (tag_for (length c) ∷ c) 0 power_at keys_long)

  tag_back : tag_byte_of (encoded a s b c) ≡ tagWith t
  tag_back =
      rw (by_keys, ← append_snoc keys b (tag_for (length c) ∷ c))
      (get_or_at (keys ++ (b ∷ [])) (tag_for (length c)) c 0 tag_at (rw (length-append, keys_long)) ∙ tag-with (length c) t r.citation_long)

  behind_tag : drop payload_length (encoded a s b c) ≡ c
  behind_tag =
      let q : List ℕ = (keys ++ (b ∷ [])) ++ (tag_for (length c) ∷ []) in
      let e : encoded a s b c ≡ q ++ c = by_keys ∙ sym (append_snoc keys b (tag_for (length c) ∷ c)) ∙ sym (append_snoc (keys ++ (b ∷ [])) (tag_for (length c)) c) in
      rw e (drop_at q c payload_length (rw (length-append, length-append, keys_long)))

  accepted : decoded (encoded a s b c) ≡ Ok (found p t)
  accepted = complete (encoded a s b c) p t (record { level = ap level_of power_back ∙ l; long = long; tag = tag_back })

  citation_back : citation_of (encoded a s b c) ≡ c
  unfolding citation_of
  citation_back = rw accepted (kept t r.citation_long)
    where
      kept : (u : Bool) → length c ≡ citation_with u → cited (Ok (found p u)) (encoded a s b c) ≡ c
      kept true e = rw behind_tag (take_all digest_length c (omega arith))
      kept false e = no_bytes c e

  pub has_parts : HasParts (encoded a s b c) a s b c p t
  has_parts =
      record {
        long = long;
        accepted = accepted;
        same_audience = audience_back;
        same_subject = subject_back;
        same_power = power_back;
        same_citation = citation_back;
      }

-- From the payload to its parts: the citation is what stands behind the tag, and the four pieces laid side by side are the payload again.
citation_behind : (s : List ℕ) (p : Power) (t : Bool) → length s ≡ lengthWith t → cited (Ok (found p t)) s ≡ drop payload_length s
citation_behind s p true e = take_all digest_length (drop payload_length s) (simp length-drop (omega arith))
citation_behind s p false e = sym (drop_of_length-le s {i = payload_length} (omega arith))

behind_long : (n : ℕ) (t : Bool) → n ≡ lengthWith t → n - payload_length ≡ citation_with t
behind_long n true e = omega arith
behind_long n false e = omega arith

-- a refused payload has none
pub refused_citation : (s : List ℕ) (r : Refusal) → decoded s ≡ Err r → citation_of s ≡ []
unfolding citation_of
refused_citation s r e = rw e

pub record Parts (s : List ℕ) (p : Power) (t : Bool) : Type 0 where
  pub lengths : RightLengths (audience_of s) (subject_of s) (citation_of s) t
  pub power_byte : power_byte_of s ≡ byte_of p
  pub whole : encoded (audience_of s) (subject_of s) (byte_of p) (citation_of s) ≡ s

module _ (s : List ℕ) (p : Power) (t : Bool) (e : decoded s ≡ Ok (found p t)) where
  base : payload_length ≤ length s
  base = at_least_base (length s) t (sound s p t e).long

  citation_is : citation_of s ≡ drop payload_length s
  unfolding citation_of
  citation_is = rw e (citation_behind s p t (sound s p t e).long)

  citation_long : length (citation_of s) ≡ citation_with t
  citation_long = rw (citation_is, length-drop) (behind_long (length s) t (sound s p t e).long)

  power_is : power_byte_of s ≡ byte_of p
  power_is = byte_level (power_byte_of s) p (sound s p t e).level

  whole : encoded (audience_of s) (subject_of s) (byte_of p) (citation_of s) ≡ s
  unfolding encoded
  whole =
      let h = base in
      let tag : tag_for (length (citation_of s)) ≡ tag_byte_of s = tag-with (length (citation_of s)) t citation_long ∙ sym (sound s p t e).tag in
      rw (tag, ← power_is, citation_is, ← drop-cons s tag_at 0 (omega arith), ← drop-cons s power_at 0 (omega arith))
      (ap (λ l. audience_of s ++ (subject_of s ++ l)) (sym (drop-drop key_length key_length s))
      ∙ ap (λ l. audience_of s ++ l) (take-append-drop key_length (drop key_length s))
      ∙ take-append-drop key_length s)

  pub parts : Parts s p t
  parts =
      let h = base in
      let right : RightLengths (audience_of s) (subject_of s) (citation_of s) t = record {
        audience_long = length-take-le key_length s (omega arith);
        subject_long = length-take-le key_length (drop key_length s) (simp length-drop (omega arith));
        citation_long = citation_long;
      } in
      record { lengths = right; power_byte = power_is; whole = whole }

-- What is handed over of an accepted payload, where the part behind the tag is the citation.
pub is_payload : (s : List ℕ) (p : Payload) (t : Bool) → Accepts s p.power t
    → p.audience.now ≡ audience_of s → p.subject.now ≡ subject_of s → p.citation.now ≡ drop payload_length s → IsPayload s p
is_payload s p t a audience subject citation =
    let e = complete s p.power t a in
    record { has_citation = t; accepted = e; audience = audience; subject = subject; citation = citation ∙ sym (citation_is s p.power t e) }
