-- The delegation payload, from document 01's "Delegation payload": what a reader finds and what a writer leaves, on every input.
-- `cond t a b` is a where t holds, and b where it does not; `ltb`, `eqb` are the tests < and ≡ on numbers. Rests on Limits, Power, Refusal, Bytes.
use Rattle.std.specs.Prelude.{ℕ, ◌+◌, ◌≤◌, Bool, true, false, cond, not, ◌||◌, List, [], ◌∷◌, ◌++◌, ◌≡◌, length, take, drop, get_or, eqb, ltb, Result, Ok, Err}
use Rattle.keyline.specs.Limits.{key_length, digest_length, power_at, tag_at, payload_length, cited_length}
use Rattle.power_levels.specs.Power.{level_of}
use Rattle.lent.specs.Bytes.{front}
use Rattle.power_levels.specs.declared.power.Power.{Power}
use Rattle.power_levels.specs.declared.power.InvalidPower.{InvalidPower}
use Rattle.keyline.specs.declared.refusal.Refusal.{Refusal}
use Rattle.keyline.specs.declared.refusal.Refusal.TheVariants.{BadLength, UnexpectedEnd, TrailingBytes, InvalidTag, SmallBuffer}
use Rattle.codec.specs.declared.delegation.Payload.{Payload}

-- "audience 32, subject 32, power 1, tag 1, then 32 bytes of citation if the tag is 1."
abbrev pub audience_of : List ℕ → List ℕ
audience_of s = take key_length s

abbrev pub subject_of : List ℕ → List ℕ
subject_of s = take key_length (drop key_length s)

abbrev pub power_byte_of : List ℕ → ℕ
power_byte_of s = get_or s power_at 0

abbrev pub tag_byte_of : List ℕ → ℕ
tag_byte_of s = get_or s tag_at 0

-- the tag's two values: no citation follows, one follows
abbrev pub citation_absent : ℕ
citation_absent = 0

abbrev pub citation_present : ℕ
citation_present = 1

-- The reader: what it finds in an accepted payload beside the keys, its level and whether a citation follows. "Checks in this order:"
pub data Found : Type 0 where
  found : Power → Bool → Found

-- third, of a payload of n bytes with the level p and the tag byte:
-- "tag 0 with more than 66 bytes is TrailingBytes; tag 1 with under 98 is UnexpectedEnd, with over 98 TrailingBytes; any other tag is InvalidTag."
unfoldable pub tagged : ℕ → Power → ℕ → Result Found Refusal
tagged n p tag =
    cond (eqb tag citation_absent)
    (cond (ltb payload_length n) (Err TrailingBytes) (Ok (found p false)))
    (cond (eqb tag citation_present)
    (cond (ltb n cited_length) (Err UnexpectedEnd) (cond (ltb cited_length n) (Err TrailingBytes) (Ok (found p true))))
    (Err (InvalidTag tag)))

-- second, of a payload s whose power byte says this level: "a power byte that is none of the four is InvalidTag;"
abbrev pub leveled : Result Power InvalidPower → List ℕ → Result Found Refusal
leveled (Err e) s = Err (InvalidTag (power_byte_of s))
leveled (Ok p) s = tagged (length s) p (tag_byte_of s)

-- first: "under 66 bytes is UnexpectedEnd;"
unfoldable pub decoded : List ℕ → Result Found Refusal
decoded s = cond (ltb (length s) payload_length) (Err UnexpectedEnd) (leveled (level_of (power_byte_of s)) s)

-- "The citation of an accepted payload is handed back as bytes 66 to 97 of the caller's own slice; with tag 0, or on a refusal, the part is empty."
abbrev pub cited : Result Found Refusal → List ℕ → List ℕ
cited (Ok (found p true)) s = take digest_length (drop payload_length s)
cited (Ok (found p false)) s = []
cited (Err r) s = []

unfoldable pub citation_of : List ℕ → List ℕ
citation_of s = cited (decoded s) s

-- the reader's answer in the same words: the level and whether a citation follows, or the refusal
abbrev pub read_as : Result Payload Refusal → Result Found Refusal
read_as (Ok p) = Ok (found p.power (not (eqb (length p.citation.now) 0)))
read_as (Err r) = Err r

-- what is handed over of the payload s: p has its level, and its other parts as they stand in s
pub record IsPayload (s : List ℕ) (p : Payload) : Type 0 where
  pub has_citation : Bool
  pub accepted : decoded s ≡ Ok (found p.power has_citation)
  pub audience : p.audience.now ≡ audience_of s
  pub subject : p.subject.now ≡ subject_of s
  pub citation : p.citation.now ≡ citation_of s

-- The writer. It "takes audience, subject, a power byte and a citation of 0 (absent) or 32 bytes"

-- the tag before a citation of n bytes
unfoldable pub tag_for : ℕ → ℕ
tag_for n = cond (eqb n 0) citation_absent citation_present

-- the payload: "audience 32, subject 32, power 1, tag 1, then 32 bytes of citation"
unfoldable pub encoded : List ℕ → List ℕ → ℕ → List ℕ → List ℕ
encoded audience subject power citation = audience ++ (subject ++ (power ∷ tag_for (length citation) ∷ citation))

-- "a citation of 0 (absent) or 32 bytes"
unfoldable pub citation_fits : ℕ → Bool
citation_fits n = eqb n 0 || eqb n digest_length

-- "Its checks: lengths (1) in that order, power byte (4), then 9."

-- then 9, whose value is "bytes needed"
abbrev pub roomed : ℕ → ℕ → Result ℕ Refusal
roomed needed room = cond (ltb room needed) (Err (SmallBuffer needed)) (Ok needed)

-- power byte (4), whose value is "the byte"
abbrev pub encode_leveled : Result Power InvalidPower → ℕ → ℕ → ℕ → Result ℕ Refusal
encode_leveled (Err e) power citation room = Err (InvalidTag power)
encode_leveled (Ok p) power citation room = roomed (payload_length + citation) room

-- lengths (1) in that order: audience, subject, citation; the value is "its length"
unfoldable pub encode_checked : ℕ → ℕ → ℕ → ℕ → ℕ → Result ℕ Refusal
encode_checked audience subject power citation room =
    cond (eqb audience key_length)
    (cond (eqb subject key_length)
    (cond (citation_fits citation) (encode_leveled (level_of power) power citation room)
    (Err (BadLength citation)))
    (Err (BadLength subject)))
    (Err (BadLength audience))

-- the writer's answer, how many bytes it wrote or why it wrote none, with out the buffer that it is lent
abbrev pub encode_answer : List ℕ → List ℕ → ℕ → List ℕ → List ℕ → Result ℕ Refusal
encode_answer audience subject power citation out = encode_checked (length audience) (length subject) power (length citation) (length out)

-- "puts 66 or 98 bytes at the front of the caller's buffer"; "A refusal leaves store, version and buffers unchanged."
abbrev pub filled : Result ℕ Refusal → List ℕ → List ℕ → List ℕ
filled (Ok n) payload out = front payload out
filled (Err r) payload out = out

unfoldable pub after_encode : List ℕ → List ℕ → ℕ → List ℕ → List ℕ → List ℕ
after_encode audience subject power citation out = filled (encode_answer audience subject power citation out) (encoded audience subject power citation) out

-- what the checks leave to the function that writes the parts; no public contract cites it
pub record Room (audience subject citation out : List ℕ) : Type 0 where
  pub audience_long : length audience ≡ key_length
  pub subject_long : length subject ≡ key_length
  pub room : payload_length + length citation ≤ length out
