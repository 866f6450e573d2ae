-- What a store holds, over bytes: the certificates, each kind in the order in which it came. Every contract of a store speaks of this
-- and never of tables. Rests on the payload's definitions.
use Rattle.std.specs.Prelude.{ℕ, ◌+◌, Bool, false, cond, List, [], ◌∷◌, ◌++◌, map, length, get_or, eqb}
use Rattle.power_levels.specs.Power.{byte_of, rank_of}
use Rattle.codec.specs.Delegation.{encoded}
use Rattle.power_levels.specs.declared.power.Power.{Power}
use Rattle.power_levels.specs.declared.power.Power.TheVariants.{Relay}
use Rattle.runs.specs.Bytes.{Bytes, eq_bytes}
use Rattle.runs.specs.Members.{place, fresh}

-- a held delegation; its citation is empty where there is none
pub record Delegation : Type 0 where
  pub digest : Bytes
  pub issuer : Bytes
  pub audience : Bytes
  pub subject : Bytes
  pub power : Power
  pub citation : Bytes

-- a held revocation
pub record Revocation : Type 0 where
  pub digest : Bytes
  pub issuer : Bytes
  pub revoked : Bytes

pub record Committed : Type 0 where
  pub delegations : List Delegation
  pub revocations : List Revocation

-- what an empty store holds
abbrev pub nothing : Committed
nothing = record { delegations = []; revocations = [] }

-- how many certificates: "The version starts at 0 and rises by one with each certificate added", and "Nothing is ever removed."
abbrev pub length_of : Committed → ℕ
length_of c = length c.delegations + length c.revocations

-- ---- identities
abbrev pub delegation_digests : Committed → List Bytes
delegation_digests c = map (λ g. g.digest) c.delegations

abbrev pub revocation_digests : Committed → List Bytes
revocation_digests c = map (λ r. r.digest) c.revocations

abbrev pub no_delegation : Delegation
no_delegation = record { digest = []; issuer = []; audience = []; subject = []; power = Relay; citation = [] }

abbrev pub no_revocation : Revocation
no_revocation = record { digest = []; issuer = []; revoked = [] }

-- the held one with that digest
abbrev pub delegation_with : Committed → Bytes → Delegation
delegation_with c d = get_or c.delegations (place (delegation_digests c) d) no_delegation

abbrev pub revocation_with : Committed → Bytes → Revocation
revocation_with c d = get_or c.revocations (place (revocation_digests c) d) no_revocation

-- ---- "The held keys are the issuers, audiences and subjects of held delegations and the issuers of held revocations."
abbrev pub delegation_keys : Delegation → List Bytes
delegation_keys g = g.issuer ∷ g.audience ∷ g.subject ∷ []

abbrev pub revocation_keys : Revocation → List Bytes
revocation_keys r = r.issuer ∷ []

unfoldable pub keys_of : {A : Type 0} → (A → List Bytes) → List A → List Bytes
keys_of f [] = []
keys_of f (a ∷ l) = f a ++ keys_of f l

unfoldable pub keys_in : Committed → List Bytes
keys_in c = keys_of delegation_keys c.delegations ++ keys_of revocation_keys c.revocations

-- each once
abbrev pub keys : Committed → List Bytes
keys c = fresh [] (keys_in c)

-- ---- "Content is issuer and payload, or issuer and revoked digest."
-- the payload that a delegation came as
abbrev pub payload_of : Delegation → Bytes
payload_of g = encoded g.audience g.subject (byte_of g.power) g.citation

unfoldable pub same_content : Delegation → Delegation → Bool
same_content g h = cond (eq_bytes g.issuer h.issuer) (eq_bytes (payload_of g) (payload_of h)) false

unfoldable pub same_revoked : Revocation → Revocation → Bool
same_revoked r q = cond (eq_bytes r.issuer q.issuer) (eq_bytes r.revoked q.revoked) false

-- content, part by part, as it is compared
unfoldable pub same_parts : Delegation → Delegation → Bool
same_parts g h =
    cond (eq_bytes g.issuer h.issuer)
    (cond (eq_bytes g.audience h.audience)
    (cond (eq_bytes g.subject h.subject)
    (cond (eqb (rank_of g.power) (rank_of h.power))
    (eq_bytes g.citation h.citation)
    false) false) false) false
