-- Document 01's "Terms and sizes" and the payload's layout: each number named once, for every contract. Rests on nothing.
use Rattle.std.specs.Prelude.{ℕ, ◌+◌}

-- "A key (the Rust's Identifier) is 32 bytes"
abbrev pub key_length : ℕ
key_length = 32

-- "A digest is 32 bytes."
abbrev pub digest_length : ℕ
digest_length = 32

-- "audience 32, subject 32, power 1, tag 1, then 32 bytes of citation if the tag is 1. Length 66 or 98."
-- so the power byte is byte 64
abbrev pub power_at : ℕ
power_at = key_length + key_length

-- the tag is byte 65
abbrev pub tag_at : ℕ
tag_at = power_at + 1

-- without a citation a payload is 66 bytes, and byte 66 is where a citation begins
abbrev pub payload_length : ℕ
payload_length = tag_at + 1

-- with one it is 98
abbrev pub cited_length : ℕ
cited_length = payload_length + digest_length

-- "A store holds at most 64 keys, 128 delegations and 64 revocations."
abbrev pub key_limit : ℕ
key_limit = 64

abbrev pub delegation_limit : ℕ
delegation_limit = 128

abbrev pub revocation_limit : ℕ
revocation_limit = 64
