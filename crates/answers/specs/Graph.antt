-- What a store holds, as the graph that document 01's rules speak of: keys and digests are bytes, delegations and revocations are
-- their bytes. Every contract of the evaluating calls speaks of `graph c`, with c the committed set.
use Rattle.std.specs.Prelude.{◌≡◌}
use mathlib.Core.List.{Memᴰ}
use Rattle.rules.specs.Rules.{Shape, Graph, Revocations, Store}
use Rattle.rules.specs.Rules as rules
use Rattle.power_levels.specs.Power.{rank_of}
use Rattle.runs.specs.Bytes.{Bytes, Less}
use Rattle.tables.specs.Committed.{Delegation, Revocation, Committed}

abbrev pub shape : Shape
shape = record {
  Key = Bytes;
  Del = Delegation;
  issuer = λ d. d.issuer;
  audience = λ d. d.audience;
  subject = λ d. d.subject;
  power = λ d. rank_of d.power;
}

-- a revocation names the delegation whose digest it revokes
abbrev pub revocations : Revocations shape
revocations = record { Rev = Revocation; revoker = λ v. v.issuer; Names = λ v d. v.revoked ≡ d.digest }

abbrev pub store : Committed → Store shape revocations
store c = record { HeldDel = λ d. Memᴰ d c.delegations; HeldRev = λ v. Memᴰ v c.revocations }

abbrev pub graph : Committed → Graph shape
graph c = rules.graph (store c)

-- the order of certificates is that of their digests
abbrev pub ByDigest : Delegation → Delegation → Type 0
ByDigest d e = Less d.digest e.digest

abbrev pub RevByDigest : Revocation → Revocation → Type 0
RevByDigest v w = Less v.digest w.digest
