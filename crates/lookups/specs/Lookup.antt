-- Lookups by identity, from document 01: they "put the issuer in one buffer and the payload or revoked digest in another, or say that it is
-- absent and touch neither". Lengths come first, then the first buffer's fit, then the second's. Rests on what is committed.
use Rattle.std.specs.Prelude.{ℕ, Bool, cond, List, length, ltb, eqb, Result, Ok, Err, Option, Some, None}
use Rattle.lent.specs.Bytes.{front}
use Rattle.keyline.specs.declared.refusal.Refusal.TheVariants.{SmallBuffer, BadLength}
use Rattle.runs.specs.Bytes.{Bytes}
use Rattle.runs.specs.Members.{has}
use Rattle.keyline.specs.Limits.{digest_length}
use Rattle.tables.specs.Committed.{Committed, delegation_digests, revocation_digests, delegation_with, revocation_with, payload_of}
use Rattle.keyline.specs.declared.refusal.Refusal.{Refusal}

-- ---- is one with that digest among l
unfoldable pub contains_answer : List Bytes → Bytes → Result Bool Refusal
contains_answer l d = cond (eqb (length d) digest_length) (Ok (has l d)) (Err (BadLength (length d)))

-- ---- a held certificate with the parts x and y, and rooms of n and m bytes; Held has the length of y
unfoldable pub parts_answer : Bytes → Bytes → ℕ → ℕ → Result (Option ℕ) Refusal
parts_answer x y n m =
    cond (ltb n (length x)) (Err (SmallBuffer (length x)))
    (cond (ltb m (length y)) (Err (SmallBuffer (length y))) (Ok (Some (length y))))

-- only the answer Held touches a buffer: the part stands at its front
abbrev pub part_buffer : Result (Option ℕ) Refusal → Bytes → Bytes → Bytes
part_buffer (Ok (Some n)) x out = front x out
part_buffer (Ok None) x out = out
part_buffer (Err r) x out = out

-- the answer for a digest d that is held or not, where `there` is the answer for the one that is held
unfoldable pub look_answer : Bool → Bytes → Result (Option ℕ) Refusal → Result (Option ℕ) Refusal
look_answer held d there = cond (eqb (length d) digest_length) (cond held there (Ok None)) (Err (BadLength (length d)))

-- issuer and payload of a delegation
abbrev pub delegation_lookup : Committed → Bytes → ℕ → ℕ → Result (Option ℕ) Refusal
delegation_lookup c d n m = look_answer (has (delegation_digests c) d) d (parts_answer (delegation_with c d).issuer (payload_of (delegation_with c d)) n m)

-- issuer and revoked digest of a revocation
abbrev pub revocation_lookup : Committed → Bytes → ℕ → ℕ → Result (Option ℕ) Refusal
revocation_lookup c d n m = look_answer (has (revocation_digests c) d) d (parts_answer (revocation_with c d).issuer (revocation_with c d).revoked n m)
