-- What the parts of a store stand for together, and what holds of them in every store: its type carries it. Rests on tables' Columns.
use Rattle.std.specs.Prelude.{ℕ, ◌+◌, ◌*◌, ◌≡◌, length}
use Rattle.runs.specs.Bytes.{run_length}
use Rattle.runs.specs.Members.{SameRuns}
use Rattle.runs.specs.Table.{tabulate, runs, GoodRuns}
use Rattle.keyline.specs.Limits.{key_limit, delegation_limit, revocation_limit}
use Rattle.tables.specs.Committed.{Committed, keys_in}
use Rattle.tables.specs.Columns.{delegation_at, revocation_at, Places, Ranks}
use Rattle.tables.specs.declared.keys.Keys.{Keys}
use Rattle.tables.specs.declared.delegations.Delegations.{Delegations}
use Rattle.tables.specs.declared.revocations.Revocations.{Revocations}

-- the certificates that the tables hold
unfoldable pub holds : Keys → Delegations → Revocations → Committed
holds k d r = record {
  delegations = tabulate (delegation_at k.table d) d.count;
  revocations = tabulate (revocation_at k.table r) r.count;
}

-- with m keys held
pub record GoodDelegations (m : ℕ) (t : Delegations) : Type 0 where
  pub digests : GoodRuns delegation_limit t.digests t.count
  pub issuer : Places delegation_limit t.count m t.issuer
  pub audience : Places delegation_limit t.count m t.audience
  pub subject : Places delegation_limit t.count m t.subject
  pub power : Ranks delegation_limit t.power
  pub cited : length t.cited ≡ delegation_limit
  pub citation : length t.citation ≡ run_length * delegation_limit

pub record GoodRevocations (m : ℕ) (t : Revocations) : Type 0 where
  pub digests : GoodRuns revocation_limit t.digests t.count
  pub issuer : Places revocation_limit t.count m t.issuer
  pub revoked : length t.revoked ≡ run_length * revocation_limit

-- digests are distinct in each table, and keys (GoodRuns); the held keys are exactly those of held certificates; places are held; the version is the number held.
-- A delegation and a revocation may have equal digest bytes.
pub record GoodParts (k : Keys) (d : Delegations) (r : Revocations) (number : ℕ) : Type 0 where
  pub keys : GoodRuns key_limit k.table k.count
  pub exact : SameRuns (runs k.table k.count) (keys_in (holds k d r))
  pub delegations : GoodDelegations k.count d
  pub revocations : GoodRevocations k.count r
  pub version : number ≡ d.count + r.count
