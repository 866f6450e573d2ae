-- What an insertion looks at, as the tables have it: the table k of m keys, how many certificates of the kind there are, the place at
-- which the digest was found, and what stands there. Rests on Columns and Insertion.
use Rattle.std.specs.Prelude.{ℕ, ◌+◌, ◌*◌, ◌≤◌, ◌<◌, cond, [], length, ltb, Result, Ok, Err}
use Rattle.power_levels.specs.declared.power.Power.{Power}
use Rattle.keyline.specs.declared.refusal.Refusal.TheVariants.{FullKeys}
use Rattle.places.specs.declared.KeyPlace.{KeyPlace}
use Rattle.places.specs.declared.DelegationPlace.{DelegationPlace}
use Rattle.places.specs.declared.RevocationPlace.{RevocationPlace}
use Rattle.runs.specs.Bytes.{Bytes, run_length, run_at}
use Rattle.runs.specs.Table.{runs}
use Rattle.keyline.specs.Limits.{key_limit}
use Rattle.power_levels.specs.Power.{level_count}
use Rattle.tables.specs.Committed.{Delegation, Revocation}
use Rattle.tables.specs.Columns.{row_says}
use Rattle.tables.specs.Insertion.{Seen}
use Rattle.tables.specs.declared.delegations.DelegationRow.{DelegationRow}
use Rattle.tables.specs.declared.answer.Outcome.{Outcome}
use Rattle.keyline.specs.declared.refusal.Refusal.{Refusal}
use Rattle.tables.specs.declared.answer.Outcome.TheVariants.{Added}

-- a place of 32 bytes in b
abbrev pub RunFits : Bytes → ℕ → Type 0
RunFits b i = run_length * i + run_length ≤ length b

-- the certificate to insert; no check looks at its digest but that for one that is held
abbrev pub argument : Bytes → Bytes → Bytes → Power → Bytes → Delegation
argument i a s w c = record { digest = []; issuer = i; audience = a; subject = s; power = w; citation = c }

abbrev pub revocation_argument : Bytes → Bytes → Revocation
revocation_argument i x = record { digest = []; issuer = i; revoked = x }

-- ---- a delegation, with the column c of citations
pub record RowFits (k c : Bytes) (at : DelegationPlace) (row : DelegationRow) : Type 0 where
  pub issuer : RunFits k row.issuer.0
  pub audience : RunFits k row.audience.0
  pub subject : RunFits k row.subject.0
  pub power : row.power < level_count
  pub citation : RunFits c at.0

abbrev pub row_there : Bytes → Bytes → DelegationPlace → DelegationRow → Delegation
row_there k c at row = row_says k [] row (run_at c at.0)

abbrev pub delegation_there : Bytes → ℕ → Bytes → ℕ → DelegationPlace → DelegationRow → Seen Delegation
delegation_there k m c n at row = record { keys = runs k m; count = n; held = ltb at.0 n; other = row_there k c at row }

-- ---- a revocation, with the column x of revoked digests
pub record RevocationFits (k x : Bytes) (at : RevocationPlace) (by : KeyPlace) : Type 0 where
  pub issuer : RunFits k by.0
  pub revoked : RunFits x at.0

abbrev pub revoked_there : Bytes → Bytes → RevocationPlace → KeyPlace → Revocation
revoked_there k x at by = record { digest = []; issuer = run_at k by.0; revoked = run_at x at.0 }

abbrev pub revocation_there : Bytes → ℕ → Bytes → ℕ → RevocationPlace → KeyPlace → Seen Revocation
revocation_there k m x n at by = record { keys = runs k m; count = n; held = ltb at.0 n; other = revoked_there k x at by }

-- ---- m keys and `new` more
abbrev pub room_answer : ℕ → ℕ → Result Outcome Refusal
room_answer m new = cond (ltb key_limit (m + new)) (Err (FullKeys new)) (Ok Added)
