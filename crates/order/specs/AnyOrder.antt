-- The order in which certificates come does not matter: what that says. `any_order` of proofs/AnyOrder proves it of what is held, and
-- `states_agree` of proofs/SameSets of States and of every answer.
use Rattle.std.specs.Prelude.{Bool, true, false, cond, ◌↔◌, ◌≡◌, Result, Ok, Err, Option}
use mathlib.Core.List.{List, [], ◌∷◌, ◌++◌, Memᴰ}
use Rattle.runs.specs.Bytes.{Bytes}
use Rattle.runs.specs.Members.{has}
use Rattle.tables.specs.Committed.{Delegation, Revocation, Committed, nothing, length_of, delegation_digests, revocation_digests, delegation_with, revocation_with}
use Rattle.tables.specs.Insertion.{delegation_answer, delegation_added, revocation_answer, revocation_added, settled}
use Rattle.lists.specs.Lists.{certificate_delegations, certificate_revocations, subjects_of, revocations_of, delegations_to}
use Rattle.keyline_memory.specs.State.{held_in, Insertion}
use Rattle.answers.specs.Answers.{IsLive, ConveyedPower, StandingAnswer}
use Rattle.answers.specs.OneClosure.{SameAnswers}
use Rattle.keyline_memory.specs.declared.state.State.{State}
use Rattle.tables.specs.declared.answer.Outcome.{Outcome}
use Rattle.keyline.specs.declared.refusal.Refusal.{Refusal}
use Rattle.tables.specs.declared.answer.Outcome.TheVariants.{Added, NotAdded}
use Rattle.power_levels.specs.declared.power.Power.{Power}
use Rattle.keyline.specs.declared.standing.Standing.{Standing}

-- ## Certificates one after the other
-- "A delegation comes as digest, issuer and payload; a revocation as digest, issuer and the digest it revokes."
pub data Certificate : Type 0 where
  delegation : Bytes → Bytes → Bytes → Certificate
  revocation : Bytes → Bytes → Bytes → Certificate

-- the answer to its insertion into c
unfoldable pub answer_to : Committed → Certificate → Result Outcome Refusal
answer_to c (delegation d i p) = delegation_answer c d i p
answer_to c (revocation d i x) = revocation_answer c d i x

-- what is held after it
unfoldable pub held_after : Committed → Certificate → Committed
held_after c (delegation d i p) = settled (delegation_answer c d i p) c (delegation_added c d i p)
held_after c (revocation d i x) = settled (revocation_answer c d i x) c (revocation_added c d i x)

-- what is held after all of them, one after the other
unfoldable pub held_after_all : Committed → List Certificate → Committed
held_after_all c [] = c
held_after_all c (k ∷ ks) = held_after_all (held_after c k) ks

abbrev pub is_refused : Result Outcome Refusal → Bool
is_refused (Ok Added) = false
is_refused (Ok NotAdded) = false
is_refused (Err r) = true

-- each of them is added, or is there already with equal content
unfoldable pub none_refused : Committed → List Certificate → Bool
none_refused c [] = true
none_refused c (k ∷ ks) = cond (is_refused (answer_to c k)) false (none_refused (held_after c k) ks)

-- every certificate of ks is one of ls
abbrev pub Among : List Certificate → List Certificate → Type 0
Among ks ls = (k : Certificate) → Memᴰ k ks → Memᴰ k ls

-- A State that came from `new` by the insertion of ks, one after the other, as the contracts of the three calls say it.
pub data Came : List Certificate → State → Type 0 where
  started : {s : State} → held_in s ≡ nothing → Came [] s
  delegated : {ks : List Certificate} {s t : State} {r : Result Outcome Refusal} (d i p : Bytes) → Came ks s
      → Insertion s t r (delegation_answer (held_in s) d i p) (delegation_added (held_in s) d i p) → Came (ks ++ (delegation d i p ∷ [])) t
  revoked : {ks : List Certificate} {s t : State} {r : Result Outcome Refusal} (d i x : Bytes) → Came ks s
      → Insertion s t r (revocation_answer (held_in s) d i x) (revocation_added (held_in s) d i x) → Came (ks ++ (revocation d i x ∷ [])) t

-- ## What does not depend on the order
-- two sets that hold the same certificates
pub record SameHeld (c e : Committed) : Type 0 where
  pub delegations : (g : Delegation) → Memᴰ g c.delegations ↔ Memᴰ g e.delegations
  pub revocations : (r : Revocation) → Memᴰ r c.revocations ↔ Memᴰ r e.revocations

-- Two sets of which no call can tell the one from the other: the calls' contracts are equations in what is equal here, or the statements of
-- Answers.
pub record SameSets (A B : Committed) : Type 0 where
  -- powers, members and closures of every key
  pub answers : (s : Bytes) → SameAnswers A B s
  -- of every digest, held or not
  pub live : (x : Bytes) (r q : Result Bool Refusal) → IsLive A x r → IsLive B x q → r ≡ q
  pub conveyed : (x : Bytes) (r q : Result (Option Power) Refusal) → ConveyedPower A x r → ConveyedPower B x q → r ≡ q
  pub standing : (x : Bytes) (r q : Result (Option Standing) Refusal) → StandingAnswer A x r → StandingAnswer B x q → r ≡ q
  -- `len` and `version`
  pub len : length_of A ≡ length_of B
  -- the lists
  pub delegations : certificate_delegations A ≡ certificate_delegations B
  pub revocations : certificate_revocations A ≡ certificate_revocations B
  pub subjects : subjects_of A ≡ subjects_of B
  pub same_delegations_to : (s x : Bytes) → delegations_to A s x ≡ delegations_to B s x
  pub same_revocations_of : (x : Bytes) → revocations_of A x ≡ revocations_of B x
  -- `contains` and the lookups
  pub holds_delegation : (d : Bytes) → has (delegation_digests A) d ≡ has (delegation_digests B) d
  pub delegation : (d : Bytes) → delegation_with A d ≡ delegation_with B d
  pub holds_revocation : (d : Bytes) → has (revocation_digests A) d ≡ has (revocation_digests B) d
  pub revocation : (d : Bytes) → revocation_with A d ≡ revocation_with B d
  -- and the answer to the next insertion, refusals too
  pub next : (k : Certificate) → answer_to A k ≡ answer_to B k
