-- Demand 3, stated of the calls: where the closures of s in two committed sets list the same certificates, with the same signers and
-- contents, equal arguments and buffer sizes give equal answers and equal bytes. `demand_3` of proofs/OneClosure proves it.
use Rattle.std.specs.Prelude.{ℕ, ◌≡◌, length, Result, Option, Bool}
use mathlib.Core.List.{Memᴰ}
use Rattle.rules.specs.Rules.{Closure}
use Rattle.rules.specs.OneClosure.{ListedIn}
use Rattle.runs.specs.Bytes.{Bytes}
use Rattle.tables.specs.Committed.{Delegation, Committed}
use Rattle.answers.specs.Graph.{graph, store}
use Rattle.answers.specs.Answers.{PositivePower, EffectivePower, MembersAnswer, IsLive, ConveyedPower, StandingAnswer, ClosureAnswer}
use Rattle.lists.specs.Lists.{length_first, list_answer, list_buffer, delegations_to, revocations_of}
use Rattle.power_levels.specs.declared.power.Power.{Power}
use Rattle.keyline.specs.declared.refusal.Refusal.{Refusal}
use Rattle.keyline.specs.declared.standing.Standing.{Standing}
use Rattle.lists.specs.declared.write.Counts.{Counts}

-- No two held delegations have one digest. Every store that insertions built is so (the invariant says it).
abbrev pub Apart : Committed → Type 0
Apart c = (d e : Delegation) → Memᴰ d c.delegations → Memᴰ e c.delegations → d.digest ≡ e.digest → d ≡ e

-- "whose closures of a subject list the same certificates with the same signers and contents"
pub record OneClosure (A B : Committed) (s : Bytes) : Type 0 where
  pub there : ListedIn (store A) (store B) s
  pub back : ListedIn (store B) (store A) s

-- The two lists that need no evaluation, as their calls' contracts have them: the answer, and then the buffer. Subject s, then audience x.
abbrev pub DelegationsToAnswer : Committed → Bytes → Bytes → Bytes → Result ℕ Refusal → Bytes → Type 0
DelegationsToAnswer c s x out r o =
    (r ≡ length_first s (length_first x (list_answer (delegations_to c s x) (length out)))) × (o ≡ list_buffer r (delegations_to c s x) out)

abbrev pub RevocationsOfAnswer : Committed → Bytes → Bytes → Result ℕ Refusal → Bytes → Type 0
RevocationsOfAnswer c x out r o = (r ≡ length_first x (list_answer (revocations_of c x) (length out))) × (o ≡ list_buffer r (revocations_of c x) out)

pub record SameAnswers (A B : Committed) (s : Bytes) : Type 0 where
  -- "the same positive and effective power of every key over it"
  pub positive : (x : Bytes) (r q : Result (Option Power) Refusal) → PositivePower A s x r → PositivePower B s x q → r ≡ q
  pub effective : (x : Bytes) (r q : Result (Option Power) Refusal) → EffectivePower A s x r → EffectivePower B s x q → r ≡ q
  -- "the same members", in the same buffers
  pub members : (keys powers : Bytes) (r q : Result ℕ Refusal) (k₁ k₂ p₁ p₂ : Bytes) → MembersAnswer A s keys powers r k₁ p₁ → MembersAnswer B s keys powers q k₂ p₂
      → (r ≡ q) × (k₁ ≡ k₂) × (p₁ ≡ p₂)
  -- "the same liveness and conveyed power for every delegation in that closure", and its standing
  pub live : (d : Delegation) → Closure (graph A) s d → (r q : Result Bool Refusal) → IsLive A d.digest r → IsLive B d.digest q → r ≡ q
  pub conveyed : (d : Delegation) → Closure (graph A) s d → (r q : Result (Option Power) Refusal) → ConveyedPower A d.digest r → ConveyedPower B d.digest q → r ≡ q
  pub standing : (d : Delegation) → Closure (graph A) s d → (r q : Result (Option Standing) Refusal) → StandingAnswer A d.digest r → StandingAnswer B d.digest q → r ≡ q
  -- and the closure itself
  pub closure : (out : Bytes) (r q : Result Counts Refusal) (o₁ o₂ : Bytes) → ClosureAnswer A s out r o₁ → ClosureAnswer B s out q o₂ → (r ≡ q) × (o₁ ≡ o₂)
  -- "Its answers also include `delegations_to` of the subject, and `revocations_of` .. for closure delegations."
  pub same_delegations_to : (x out : Bytes) (r q : Result ℕ Refusal) (o₁ o₂ : Bytes) → DelegationsToAnswer A s x out r o₁ → DelegationsToAnswer B s x out q o₂
      → (r ≡ q) × (o₁ ≡ o₂)
  pub same_revocations_of : (d : Delegation) → Closure (graph A) s d → (out : Bytes) (r q : Result ℕ Refusal) (o₁ o₂ : Bytes)
      → RevocationsOfAnswer A d.digest out r o₁ → RevocationsOfAnswer B d.digest out q o₂ → (r ≡ q) × (o₁ ≡ o₂)
