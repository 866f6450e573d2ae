-- What is made of equal parts is equal: a held delegation, a held revocation, the committed set. Apart by parts, for `cc` has no eta of records;
-- whoever knows the parts of two certificates (NextLaws here, and the crates above) needs just this to know them equal.
use mathlib.Core.Path.{◌≡◌}
use mathlib.Core.List.{List}
use Rattle.power_levels.specs.declared.power.Power.{Power}
use Rattle.runs.specs.Bytes.{Bytes}
use Rattle.tables.specs.Committed.{Delegation, Revocation, Committed}

pub delegation_made : {d e i j a b s t c k : Bytes} {p q : Power} → d ≡ e → i ≡ j → a ≡ b → s ≡ t → p ≡ q → c ≡ k
    → ◌≡◌ {A = Delegation} (record { digest = d; issuer = i; audience = a; subject = s; power = p; citation = c }) (record { digest = e; issuer = j; audience = b; subject = t; power = q; citation = k })
delegation_made x y z u v w = cc

pub revocation_made : {d e i j a b : Bytes} → d ≡ e → i ≡ j → a ≡ b → ◌≡◌ {A = Revocation} (record { digest = d; issuer = i; revoked = a }) (record { digest = e; issuer = j; revoked = b })
revocation_made x y z = cc

pub committed_made : {d e : List Delegation} {r q : List Revocation} → d ≡ e → r ≡ q → ◌≡◌ {A = Committed} (record { delegations = d; revocations = r }) (record { delegations = e; revocations = q })
committed_made x y = cc
