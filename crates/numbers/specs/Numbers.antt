-- What C is handed of a payload, from what the reader and the writer answer: the refusal's number and the value beside it are document 01's,
-- and 0 says that nothing was refused. Each part that an answer does not have is 0. Rests on the definitions of `codec`, `power_levels` and `keyline`.
use Rattle.std.specs.Prelude.{ℕ, Bool, cond, Result, Ok, Err}
use Rattle.keyline.specs.Limits.{digest_length}
use Rattle.power_levels.specs.Power.{rank_of, byte_of}
use Rattle.keyline.specs.Refusal.{number_of, beside_of}
use Rattle.keyline.specs.declared.refusal.Refusal.{Refusal}
use Rattle.codec.specs.Delegation.{Found, found}

-- the number of an answer that is no refusal
abbrev pub not_refused : ℕ
not_refused = 0

-- The reader: the refusal's number, ..
abbrev pub decode_number : Result Found Refusal → ℕ
decode_number (Ok (found p t)) = not_refused
decode_number (Err r) = number_of r

-- .. the value beside it, ..
abbrev pub decode_beside : Result Found Refusal → ℕ
decode_beside (Ok (found p t)) = 0
decode_beside (Err r) = beside_of r

-- .. the power's byte, ..
abbrev pub decode_power : Result Found Refusal → ℕ
decode_power (Ok (found p t)) = byte_of p
decode_power (Err r) = 0

-- .. its rank, by which levels are compared, ..
abbrev pub decode_rank : Result Found Refusal → ℕ
decode_rank (Ok (found p t)) = rank_of p
decode_rank (Err r) = 0

-- .. and, where a citation follows, how many bytes it has. (The contract says the length of `citation_of`; the code goes by this.)
abbrev pub citation_bytes : Bool → ℕ
citation_bytes cited = cond cited digest_length 0

abbrev pub decode_citation : Result Found Refusal → ℕ
decode_citation (Ok (found p t)) = citation_bytes t
decode_citation (Err r) = 0

-- The writer: the refusal's number, ..
abbrev pub encode_number : Result ℕ Refusal → ℕ
encode_number (Ok n) = not_refused
encode_number (Err r) = number_of r

-- .. the value beside it, ..
abbrev pub encode_beside : Result ℕ Refusal → ℕ
encode_beside (Ok n) = 0
encode_beside (Err r) = beside_of r

-- .. and the number of bytes written.
abbrev pub encode_written : Result ℕ Refusal → ℕ
encode_written (Ok n) = n
encode_written (Err r) = 0
