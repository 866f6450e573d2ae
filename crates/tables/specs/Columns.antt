-- A row of a table, column by column: the places of keys, the rank of a power, a citation or none. Rests on runs at places.
use Rattle.std.specs.Prelude.{ℕ, ◌<◌, ◌≡◌, Bool, false, cond, List, [], length, get_or, eqb}
use Rattle.power_levels.specs.Power.{rank_of}
use Rattle.power_levels.specs.declared.power.Power.{Power}
use Rattle.power_levels.specs.declared.power.Power.TheVariants.{Relay, Read, Edit, Admin}
use Rattle.places.specs.declared.KeyPlace.{KeyPlace}
use Rattle.runs.specs.Bytes.{Bytes, run_at}
use Rattle.keyline.specs.Limits.{key_limit}
use Rattle.power_levels.specs.Power.{level_count}
use Rattle.tables.specs.Committed.{Delegation, Revocation}
use Rattle.tables.specs.declared.delegations.Delegations.{Delegations}
use Rattle.tables.specs.declared.delegations.DelegationRow.{DelegationRow}
use Rattle.tables.specs.declared.revocations.Revocations.{Revocations}

abbrev pub key_place : ℕ → KeyPlace
key_place n = record { 0 = n }

-- the power of a rank
unfoldable pub power_of : ℕ → Power
power_of r = cond (eqb r (rank_of Relay)) Relay (cond (eqb r (rank_of Read)) Read (cond (eqb r (rank_of Edit)) Edit Admin))

-- the row at place i of the columns; past their end a row of zeros
abbrev pub row_from : List ℕ → List ℕ → List ℕ → List ℕ → List Bool → ℕ → DelegationRow
row_from issuer audience subject power cited i = record {
  issuer = key_place (get_or issuer i 0);
  audience = key_place (get_or audience i 0);
  subject = key_place (get_or subject i 0);
  power = get_or power i 0;
  cited = get_or cited i false;
}

abbrev pub row_at : Delegations → ℕ → DelegationRow
row_at t i = row_from t.issuer t.audience t.subject t.power t.cited i

-- the delegation that a digest, a row and a citation say, with the keys of the table k
abbrev pub row_says : Bytes → Bytes → DelegationRow → Bytes → Delegation
row_says k d r c = record {
  digest = d;
  issuer = run_at k r.issuer.0;
  audience = run_at k r.audience.0;
  subject = run_at k r.subject.0;
  power = power_of r.power;
  citation = cond r.cited c [];
}

abbrev pub delegation_at : Bytes → Delegations → ℕ → Delegation
delegation_at k t i = row_says k (run_at t.digests i) (row_at t i) (run_at t.citation i)

abbrev pub revocation_at : Bytes → Revocations → ℕ → Revocation
revocation_at k t i = record { digest = run_at t.digests i; issuer = run_at k (get_or t.issuer i 0); revoked = run_at t.revoked i }

-- a column of places of keys, of which m are held, in a table of n rows with room for `limit`
pub record Places (limit n m : ℕ) (column : List ℕ) : Type 0 where
  pub long : length column ≡ limit
  pub narrow : (i : ℕ) → get_or column i 0 < key_limit
  pub held : (i : ℕ) → i < n → get_or column i 0 < m

-- a column of ranks
pub record Ranks (limit : ℕ) (column : List ℕ) : Type 0 where
  pub long : length column ≡ limit
  pub narrow : (i : ℕ) → get_or column i 0 < level_count
