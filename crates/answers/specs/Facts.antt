-- The facts that an evaluation works on are what the tables say, at places. Internal: no contract of a public call speaks of it but
-- through the invariant of an evaluated set.
use Rattle.std.specs.Prelude.{ℕ, ◌<◌, ◌≡◌, length, get_or, List}
use Rattle.keyline.specs.Limits.{revocation_limit}
use Rattle.runs.specs.Bytes.{Bytes, run_at}
use Rattle.runs.specs.Members.{place}
use Rattle.runs.specs.Table.{runs}
use Rattle.store.specs.declared.Store.{Store}
use Rattle.coverage.specs.declared.Facts.{Facts}

-- target has, for each of the first m runs of `revoked`, its place among the n digests: n where it is none of them
abbrev pub Targets : Bytes → ℕ → Bytes → ℕ → List ℕ → Type 0
Targets digests n revoked m target = (j : ℕ) → j < m → get_or target j 0 ≡ place (runs digests n) (run_at revoked j)

pub record FactsOf (s : Store) (e : Facts) : Type 0 where
  pub issuer : e.issuer ≡ s.delegations.issuer
  pub audience : e.audience ≡ s.delegations.audience
  pub subject : e.subject ≡ s.delegations.subject
  pub power : e.power ≡ s.delegations.power
  pub delegations : e.delegations ≡ s.delegations.count
  pub revoker : e.revoker ≡ s.revocations.issuer
  pub revocations : e.revocations ≡ s.revocations.count
  pub target_long : length e.target ≡ revocation_limit
  -- the place of the digest that the revocation names, which is no held delegation's where none has it
  pub target : Targets s.delegations.digests s.delegations.count s.revocations.revoked s.revocations.count e.target
