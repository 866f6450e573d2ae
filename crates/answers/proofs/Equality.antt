-- Whether two keys, and two delegations, are the same is decided; so every committed set is finite in the sense of the rules.
use mathlib.Core.Path.{◌≡◌, ap}
use mathlib.Core.List.{List-discrete}
use native.Mathlib.Decide.{ℕ_discrete}
use Rattle.rules.specs.Rules.{Finite}
use Rattle.power_levels.specs.Power.{rank_of}
use Rattle.power_levels.specs.declared.power.Power.{Power}
use Rattle.power_levels.proofs.Levels.{same_rank}
use Rattle.runs.specs.Bytes.{Bytes}
use Rattle.tables.specs.Committed.{Delegation, Committed}
use Rattle.store.proofs.MadeLaws.{delegation_made}
use Rattle.answers.specs.Graph.{graph}

pub same_bytes : (x y : Bytes) → Dec (x ≡ y)
same_bytes = List-discrete ℕ_discrete

both : {A B : Type 0} → Dec A → Dec B → Dec (A × B)
both (yes a) (yes b) = yes (a, b)
both (yes a) (no n) = no (λ p. n p.1)
both (no n) t = no (λ p. n p.0)

same_power : (p q : Power) → Dec (p ≡ q)
same_power p q = elim (ℕ_discrete (rank_of p) (rank_of q)) [ yes e ↦ yes (same_rank p q e) | no n ↦ no (λ e. n (ap rank_of e)) ]

pub same_delegation : (d e : Delegation) → Dec (d ≡ e)
same_delegation d e = elim (both (same_bytes d.digest e.digest) (both (same_bytes d.issuer e.issuer) (both (same_bytes d.audience e.audience)
    (both (same_bytes d.subject e.subject) (both (same_power d.power e.power) (same_bytes d.citation e.citation)))))) [
      | yes p ↦ yes (delegation_made p.0 p.1.0 p.1.1.0 p.1.1.1.0 p.1.1.1.1.0 p.1.1.1.1.1)
      | no n ↦ no (λ q. n (ap (λ x. x.digest) q, (ap (λ x. x.issuer) q, (ap (λ x. x.audience) q, (ap (λ x. x.subject) q, (ap (λ x. x.power) q, ap (λ x. x.citation) q))))))
    ]

pub finite : (c : Committed) → Finite (graph c)
finite c = record { keys = same_bytes; same = same_delegation; all = c.delegations; listed = λ m. m }
