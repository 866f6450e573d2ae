-- Insertion, from document 01: "Checks in order: lengths (1), in the order named; payload (2 to 4); identity held with equal content:
-- answer "not added"; identity held with other content: 5; table full: 6 or 7; keys full: 8". Rests on Committed.
use Rattle.std.specs.Prelude.{ℕ, ◌+◌, Bool, true, false, cond, List, [], ◌∷◌, ◌++◌, length, take, drop, ltb, eqb, Result, Ok, Err}
use Rattle.power_levels.specs.Power.{rank_of}
use Rattle.codec.specs.Delegation.{Found, found, decoded, citation_of}
use Rattle.power_levels.specs.declared.power.Power.{Power}
use Rattle.keyline.specs.declared.refusal.Refusal.{Refusal}
use Rattle.keyline.specs.declared.refusal.Refusal.TheVariants.{BadLength, Conflict, FullDelegations, FullRevocations, FullKeys}
use Rattle.runs.specs.Bytes.{Bytes}
use Rattle.runs.specs.Members.{has, fresh}
use Rattle.keyline.specs.Limits.{key_length, digest_length, key_limit, delegation_limit, revocation_limit}
use Rattle.tables.specs.Committed.{Delegation, Revocation, Committed, no_delegation, delegation_digests, revocation_digests, delegation_with, revocation_with, delegation_keys, revocation_keys, keys, same_content, same_revoked}
use Rattle.tables.specs.declared.answer.Outcome.{Outcome}
use Rattle.tables.specs.declared.answer.Outcome.TheVariants.{Added, NotAdded}

-- what the checks look at: the held keys, each once; how many certificates of the kind are held; whether one with that digest is, and which
pub record Seen (A : Type 0) : Type 0 where
  pub keys : List Bytes
  pub count : ℕ
  pub held : Bool
  pub other : A

abbrev pub seen_delegation : Committed → Bytes → Seen Delegation
seen_delegation c d = record { keys = keys c; count = length c.delegations; held = has (delegation_digests c) d; other = delegation_with c d }

abbrev pub seen_revocation : Committed → Bytes → Seen Revocation
seen_revocation c d = record { keys = keys c; count = length c.revocations; held = has (revocation_digests c) d; other = revocation_with c d }

-- equal content, or other content
abbrev pub held_answer : Bool → Result Outcome Refusal
held_answer same = cond same (Ok NotAdded) (Err Conflict)

-- "keys full: 8, exactly when held keys plus the distinct new ones exceed 64", and beside it the distinct new keys
unfoldable pub keys_answer : List Bytes → List Bytes → Result Outcome Refusal
keys_answer held ks = cond (ltb key_limit (length held + length (fresh held ks))) (Err (FullKeys (length (fresh held ks)))) (Ok Added)

-- ---- a delegation: digest d, issuer i, payload p
unfoldable pub accepted_answer : Seen Delegation → Delegation → Result Outcome Refusal
accepted_answer v g =
    cond v.held (held_answer (same_content v.other g))
    (cond (ltb v.count delegation_limit) (keys_answer v.keys (delegation_keys g)) (Err FullDelegations))

-- the delegation that an accepted payload says
abbrev pub delegation_from : Bytes → Bytes → Bytes → Power → Delegation
delegation_from d i p w = record { digest = d; issuer = i; audience = take key_length p; subject = take key_length (drop key_length p); power = w; citation = citation_of p }

abbrev pub payload_answer : Result Found Refusal → Seen Delegation → Bytes → Bytes → Bytes → Result Outcome Refusal
payload_answer (Err r) v d i p = Err r
payload_answer (Ok (found w t)) v d i p = accepted_answer v (delegation_from d i p w)

unfoldable pub delegation_check : Seen Delegation → Bytes → Bytes → Bytes → Result Outcome Refusal
delegation_check v d i p =
    cond (eqb (length d) digest_length)
    (cond (eqb (length i) key_length) (payload_answer (decoded p) v d i p) (Err (BadLength (length i))))
    (Err (BadLength (length d)))

abbrev pub delegation_answer : Committed → Bytes → Bytes → Bytes → Result Outcome Refusal
delegation_answer c d i p = delegation_check (seen_delegation c d) d i p

-- the rank of its power
abbrev pub read_rank : Result Found Refusal → ℕ
read_rank (Err r) = 0
read_rank (Ok (found w t)) = rank_of w

-- what is held once the delegation is added
abbrev pub read_delegation : Result Found Refusal → Bytes → Bytes → Bytes → Delegation
read_delegation (Err r) d i p = no_delegation
read_delegation (Ok (found w t)) d i p = delegation_from d i p w

abbrev pub with_delegation : Committed → Delegation → Committed
with_delegation c g = record { delegations = c.delegations ++ (g ∷ []); revocations = c.revocations }

abbrev pub delegation_added : Committed → Bytes → Bytes → Bytes → Committed
delegation_added c d i p = with_delegation c (read_delegation (decoded p) d i p)

-- ---- a revocation: digest d, issuer i, revoked digest x
abbrev pub revocation_from : Bytes → Bytes → Bytes → Revocation
revocation_from d i x = record { digest = d; issuer = i; revoked = x }

unfoldable pub revocation_settled : Seen Revocation → Revocation → Result Outcome Refusal
revocation_settled v r =
    cond v.held (held_answer (same_revoked v.other r))
    (cond (ltb v.count revocation_limit) (keys_answer v.keys (revocation_keys r)) (Err FullRevocations))

unfoldable pub revocation_check : Seen Revocation → Bytes → Bytes → Bytes → Result Outcome Refusal
revocation_check v d i x =
    cond (eqb (length d) digest_length)
    (cond (eqb (length i) key_length)
    (cond (eqb (length x) digest_length) (revocation_settled v (revocation_from d i x)) (Err (BadLength (length x))))
    (Err (BadLength (length i))))
    (Err (BadLength (length d)))

abbrev pub revocation_answer : Committed → Bytes → Bytes → Bytes → Result Outcome Refusal
revocation_answer c d i x = revocation_check (seen_revocation c d) d i x

abbrev pub with_revocation : Committed → Revocation → Committed
with_revocation c r = record { delegations = c.delegations; revocations = c.revocations ++ (r ∷ []) }

abbrev pub revocation_added : Committed → Bytes → Bytes → Bytes → Committed
revocation_added c d i x = with_revocation c (revocation_from d i x)

-- ---- only the answer Added changes anything
abbrev pub is_added : Result Outcome Refusal → Bool
is_added (Ok Added) = true
is_added (Ok NotAdded) = false
is_added (Err r) = false

abbrev pub settled : Result Outcome Refusal → Committed → Committed → Committed
settled a old new = cond (is_added a) new old
