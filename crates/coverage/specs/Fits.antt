-- What the columns of facts keep. Assumes nothing.
use Rattle.std.specs.Prelude.{ℕ, ◌≤◌, ◌<◌, List, get_or}
use Rattle.places.specs.Limits.{key_limit, delegation_limit, revocation_limit}
use Rattle.rules.specs.Rules.{Admin}

-- every place is a place, and every power a rank
pub record Fits (issuer audience subject power : List ℕ) (delegations : ℕ) (revoker : List ℕ) (revocations : ℕ) : Type 0 where
  pub delegations_le : delegations ≤ delegation_limit
  pub revocations_le : revocations ≤ revocation_limit
  pub issuer_lt : (d : ℕ) → get_or issuer d 0 < key_limit
  pub audience_lt : (d : ℕ) → get_or audience d 0 < key_limit
  pub subject_lt : (d : ℕ) → get_or subject d 0 < key_limit
  pub power_le : (d : ℕ) → get_or power d 0 ≤ Admin
  pub revoker_lt : (j : ℕ) → get_or revoker j 0 < key_limit
