-- Two answers that satisfy one statement of a call coincide: the result and every lent byte.
-- Idea: the cases of a statement exclude each other, and within one case the definitions settle the answer (Rattle.rules, Settled).
use Prim.Native.Nat.{ℕ}
use mathlib.Core.Bool.{Bool, true, false}
use mathlib.Core.Logic.{◌↔◌}
use mathlib.Core.Path.{◌≡◌, refl, sym, ◌∙◌, ap}
use mathlib.Core.List.{List}
use mathlib.Core.Option.{Option}
use native.Mathlib.Omega.{arith}
use lib.ListN.{length}
use Rattle.rules.specs.Rules.{ConveyedIs, MembersAre, StandingIs, Lists}
use Rattle.rules.specs.Rules as rules
use Rattle.rules.proofs.Derivations.Answers.{answer_unique}
use Rattle.rules.proofs.Evaluation.Settled.{effective_settled, conveyed_settled, standing_settled, members_settled}
use Rattle.rules.proofs.Evaluation.Listing.{lists_same}
use Rattle.runs.proofs.AscentLaws.{lt_not_both}
use Rattle.power_levels.specs.Power.{rank_of}
use Rattle.power_levels.proofs.Levels.{same_rank}
use Rattle.runs.specs.Bytes.{Bytes, Less}
use Rattle.runs.specs.Members.{has}
use Rattle.tables.specs.Committed.{Delegation, Revocation, Committed, delegation_digests, delegation_with}
use Rattle.answers.specs.Graph.{graph}
use Rattle.answers.specs.Answers as says
use Rattle.answers.specs.Answers.{Held, Absent, LevelIs, level, no_level, PowerAnswer, PositivePower, EffectivePower, ConveyedPower, IsLive, StandingSays, StandingAnswer, MembersAnswer, ClosureIs, ClosureAnswer}
use Rattle.power_levels.specs.declared.power.Power.{Power}
use Rattle.keyline.specs.declared.refusal.Refusal.{Refusal}
use Rattle.keyline.specs.declared.standing.Standing.{Standing}
use Rattle.lists.specs.declared.write.Counts.{Counts}
use Rattle.std.specs.Prelude.{Result, Ok, Option as Maybe, Some}

pub level_settled : {o p : Option ℕ} {r q : Maybe Power} → o ≡ p → LevelIs o r → LevelIs p q → r ≡ q
level_settled e (level a) (level b) = let h : rank_of a ≡ rank_of b = cc in rw (same_rank a b h)
level_settled e (level a) no_level = let z : ◌≡◌ {A = ℕ} 0 1 = cc in absurd (omega arith)
level_settled e no_level (level b) = let z : ◌≡◌ {A = ℕ} 0 1 = cc in absurd (omega arith)
level_settled e no_level no_level = refl

standing_says : {t u : rules.Standing} {r q : Standing} → t ≡ u → StandingSays t r → StandingSays u q → r ≡ q
standing_says e says.live says.live = refl
standing_says e says.live says.revoked = let z : ◌≡◌ {A = ℕ} 0 1 = cc in absurd (omega arith)
standing_says e says.live says.unsupported = let z : ◌≡◌ {A = ℕ} 0 1 = cc in absurd (omega arith)
standing_says e says.revoked says.live = let z : ◌≡◌ {A = ℕ} 0 1 = cc in absurd (omega arith)
standing_says e says.revoked says.revoked = refl
standing_says e says.revoked says.unsupported = let z : ◌≡◌ {A = ℕ} 0 1 = cc in absurd (omega arith)
standing_says e says.unsupported says.live = let z : ◌≡◌ {A = ℕ} 0 1 = cc in absurd (omega arith)
standing_says e says.unsupported says.revoked = let z : ◌≡◌ {A = ℕ} 0 1 = cc in absurd (omega arith)
standing_says e says.unsupported says.unsupported = refl

-- Two statements about one pair of keys, whose levels coincide.
pub power_settled : {P Q : Option ℕ → Type 0} {s x : Bytes} {r q : Result (Maybe Power) Refusal} → ((o p : Option ℕ) → P o → Q p → o ≡ p)
    → PowerAnswer P s x r → PowerAnswer Q s x q → r ≡ q
power_settled f (says.subject-length n) (says.subject-length m) = refl
power_settled f (says.subject-length n) (says.audience-length h m) = absurd (n h)
power_settled f (says.subject-length n) (says.answered h k b w) = absurd (n h)
power_settled f (says.audience-length h n) (says.subject-length m) = absurd (m h)
power_settled f (says.audience-length h n) (says.audience-length k m) = refl
power_settled f (says.audience-length h n) (says.answered k l b w) = absurd (n l)
power_settled f (says.answered h k a v) (says.subject-length m) = absurd (m h)
power_settled f (says.answered h k a v) (says.audience-length l m) = absurd (m k)
power_settled f (says.answered h k a v) (says.answered l m b w) = ap Ok (level_settled (f _ _ a b) v w)

-- Statements about the delegation with one digest in two sets that both have one of it, or both none.
module _ (A B : Committed) (x : Bytes) (same : has (delegation_digests A) x ≡ has (delegation_digests B) x) where
  clash : Held A x → ¬ Absent B x
  clash h n = let b : ◌≡◌ {A = Bool} true false = sym h ∙ (same ∙ n) in let z : ◌≡◌ {A = ℕ} 0 1 = cc in omega arith

  clash' : Absent A x → ¬ Held B x
  clash' n h = let b : ◌≡◌ {A = Bool} false true = sym n ∙ (same ∙ h) in let z : ◌≡◌ {A = ℕ} 0 1 = cc in omega arith

  pub conveyed_power_settled : {r q : Result (Maybe Power) Refusal}
      → (Held A x → (o p : Option ℕ) → ConveyedIs (graph A) (delegation_with A x) o → ConveyedIs (graph B) (delegation_with B x) p → o ≡ p)
      → ConveyedPower A x r → ConveyedPower B x q → r ≡ q
  conveyed_power_settled f (says.digest-length n) (says.digest-length m) = refl
  conveyed_power_settled f (says.digest-length n) (says.absent h e) = absurd (n h)
  conveyed_power_settled f (says.digest-length n) (says.answered h e b w) = absurd (n h)
  conveyed_power_settled f (says.absent h e) (says.digest-length m) = absurd (m h)
  conveyed_power_settled f (says.absent h e) (says.absent k g) = refl
  conveyed_power_settled f (says.absent h e) (says.answered k g b w) = absurd (clash' e g)
  conveyed_power_settled f (says.answered h e a v) (says.digest-length m) = absurd (m h)
  conveyed_power_settled f (says.answered h e a v) (says.absent k g) = absurd (clash e g)
  conveyed_power_settled f (says.answered h e a v) (says.answered k g b w) = ap Ok (level_settled (f e _ _ a b) v w)

  pub is_live_settled : {r q : Result Bool Refusal} → (Held A x → rules.Live (graph A) (delegation_with A x) ↔ rules.Live (graph B) (delegation_with B x))
      → IsLive A x r → IsLive B x q → r ≡ q
  is_live_settled f (says.digest-length n) (says.digest-length m) = refl
  is_live_settled f (says.digest-length n) (says.absent h e) = absurd (n h)
  is_live_settled f (says.digest-length n) (says.live h e v) = absurd (n h)
  is_live_settled f (says.digest-length n) (says.dead h e v) = absurd (n h)
  is_live_settled f (says.absent h e) (says.digest-length m) = absurd (m h)
  is_live_settled f (says.absent h e) (says.absent k g) = refl
  is_live_settled f (says.absent h e) (says.live k g v) = absurd (clash' e g)
  is_live_settled f (says.absent h e) (says.dead k g v) = refl
  is_live_settled f (says.live h e v) (says.digest-length m) = absurd (m h)
  is_live_settled f (says.live h e v) (says.absent k g) = absurd (clash e g)
  is_live_settled f (says.live h e v) (says.live k g w) = refl
  is_live_settled f (says.live h e v) (says.dead k g w) = absurd (w ((f e).0 v))
  is_live_settled f (says.dead h e v) (says.digest-length m) = absurd (m h)
  is_live_settled f (says.dead h e v) (says.absent k g) = refl
  is_live_settled f (says.dead h e v) (says.live k g w) = absurd (v ((f e).1 w))
  is_live_settled f (says.dead h e v) (says.dead k g w) = refl

  pub standing_answer_settled : {r q : Result (Maybe Standing) Refusal}
      → (Held A x → (o p : rules.Standing) → StandingIs (graph A) (delegation_with A x) o → StandingIs (graph B) (delegation_with B x) p → o ≡ p)
      → StandingAnswer A x r → StandingAnswer B x q → r ≡ q
  standing_answer_settled f (says.digest-length n) (says.digest-length m) = refl
  standing_answer_settled f (says.digest-length n) (says.absent h e) = absurd (n h)
  standing_answer_settled f (says.digest-length n) (says.answered h e b w) = absurd (n h)
  standing_answer_settled f (says.absent h e) (says.digest-length m) = absurd (m h)
  standing_answer_settled f (says.absent h e) (says.absent k g) = refl
  standing_answer_settled f (says.absent h e) (says.answered k g b w) = absurd (clash' e g)
  standing_answer_settled f (says.answered h e a v) (says.digest-length m) = absurd (m h)
  standing_answer_settled f (says.answered h e a v) (says.absent k g) = absurd (clash e g)
  standing_answer_settled f (says.answered h e a v) (says.answered k g b w) = ap (λ (u : Standing). Ok (Some u)) (standing_says (f e _ _ a b) v w)

-- Lists of members that coincide, in the same two buffers.
pub record SameMembers (r q : Result ℕ Refusal) (k k' p p' : Bytes) : Type 0 where
  pub answer : r ≡ q
  pub keys : k ≡ k'
  pub powers : p ≡ p'

module _ {A B : Committed} {s k p : Bytes} (same : (ms ns : List (Bytes × ℕ)) → MembersAre (graph A) Less s ms → MembersAre (graph B) Less s ns → ms ≡ ns) where
  pub members_answer_settled : {r q : Result ℕ Refusal} {k₁ k₂ p₁ p₂ : Bytes} → MembersAnswer A s k p r k₁ p₁ → MembersAnswer B s k p q k₂ p₂ → SameMembers r q k₁ k₂ p₁ p₂
  members_answer_settled (says.subject-length n) (says.subject-length m) = record { answer = refl; keys = refl; powers = refl }
  members_answer_settled (says.subject-length n) (says.keys_room h a l) = absurd (n h)
  members_answer_settled (says.subject-length n) (says.powers_room h a l m) = absurd (n h)
  members_answer_settled (says.subject-length n) (says.answered h a l m) = absurd (n h)
  members_answer_settled (says.keys_room h a l) (says.subject-length m) = absurd (m h)
  members_answer_settled (says.keys_room h a l) (says.keys_room i b m) = record { answer = rw (same _ _ a b); keys = refl; powers = refl }
  members_answer_settled (says.keys_room h a l) (says.powers_room i b m n) = let e = ap length (same _ _ a b) in absurd (omega arith)
  members_answer_settled (says.keys_room h a l) (says.answered i b m n) = let e = ap length (same _ _ a b) in absurd (omega arith)
  members_answer_settled (says.powers_room h a l m) (says.subject-length n) = absurd (n h)
  members_answer_settled (says.powers_room h a l m) (says.keys_room i b n) = let e = ap length (same _ _ a b) in absurd (omega arith)
  members_answer_settled (says.powers_room h a l m) (says.powers_room i b n o) = record { answer = rw (same _ _ a b); keys = refl; powers = refl }
  members_answer_settled (says.powers_room h a l m) (says.answered i b n o) = let e = ap length (same _ _ a b) in absurd (omega arith)
  members_answer_settled (says.answered h a l m) (says.subject-length n) = absurd (n h)
  members_answer_settled (says.answered h a l m) (says.keys_room i b n) = let e = ap length (same _ _ a b) in absurd (omega arith)
  members_answer_settled (says.answered h a l m) (says.powers_room i b n o) = let e = ap length (same _ _ a b) in absurd (omega arith)
  members_answer_settled (says.answered h a l m) (says.answered i b n o) =
      record { answer = rw (same _ _ a b); keys = rw (same _ _ a b); powers = rw (same _ _ a b) }

-- Closures that coincide, in the same buffer.
pub record SameClosure (r q : Result Counts Refusal) (k k' : Bytes) : Type 0 where
  pub answer : r ≡ q
  pub out : k ≡ k'

module _ {A B : Committed} {s k : Bytes}
    (same : (ds es : List Delegation) (vs ws : List Revocation) → ClosureIs A s ds vs → ClosureIs B s es ws → (ds ≡ es) × (vs ≡ ws)) where
  pub closure_answer_settled : {r q : Result Counts Refusal} {k₁ k₂ : Bytes} → ClosureAnswer A s k r k₁ → ClosureAnswer B s k q k₂ → SameClosure r q k₁ k₂
  closure_answer_settled (says.subject-length n) (says.subject-length m) = record { answer = refl; out = refl }
  closure_answer_settled (says.subject-length n) (says.room h a l) = absurd (n h)
  closure_answer_settled (says.subject-length n) (says.answered h a l) = absurd (n h)
  closure_answer_settled (says.room h a l) (says.subject-length m) = absurd (m h)
  closure_answer_settled (says.room h a l) (says.room i b m) = let e = same _ _ _ _ a b in record { answer = rw (e.0, e.1); out = refl }
  closure_answer_settled (says.room h a l) (says.answered i b m) =
      let e = same _ _ _ _ a b in let f = ap length e.0 in let g = ap length e.1 in absurd (omega arith)
  closure_answer_settled (says.answered h a l) (says.subject-length m) = absurd (m h)
  closure_answer_settled (says.answered h a l) (says.room i b m) =
      let e = same _ _ _ _ a b in let f = ap length e.0 in let g = ap length e.1 in absurd (omega arith)
  closure_answer_settled (says.answered h a l) (says.answered i b m) = let e = same _ _ _ _ a b in record { answer = rw (e.0, e.1); out = rw (e.0, e.1) }

-- ## Each call's statement settles its answer.
module _ (c : Committed) where
  pub positive_power : {s x : Bytes} {r q : Result (Maybe Power) Refusal} → PositivePower c s x r → PositivePower c s x q → r ≡ q
  positive_power = power_settled (λ o p. answer_unique)

  pub effective_power : {s x : Bytes} {r q : Result (Maybe Power) Refusal} → EffectivePower c s x r → EffectivePower c s x q → r ≡ q
  effective_power = power_settled (λ o p. effective_settled)

  pub conveyed_power : {x : Bytes} {r q : Result (Maybe Power) Refusal} → ConveyedPower c x r → ConveyedPower c x q → r ≡ q
  conveyed_power = conveyed_power_settled c c _ refl (λ e o p. conveyed_settled)

  pub is_live : {x : Bytes} {r q : Result Bool Refusal} → IsLive c x r → IsLive c x q → r ≡ q
  is_live = is_live_settled c c _ refl (λ e. ((λ v. v), (λ v. v)))

  pub standing : {x : Bytes} {r q : Result (Maybe Standing) Refusal} → StandingAnswer c x r → StandingAnswer c x q → r ≡ q
  standing = standing_answer_settled c c _ refl (λ e o p. standing_settled)

  pub members : {s k p : Bytes} {r q : Result ℕ Refusal} {k₁ k₂ p₁ p₂ : Bytes}
      → MembersAnswer c s k p r k₁ p₁ → MembersAnswer c s k p q k₂ p₂ → SameMembers r q k₁ k₂ p₁ p₂
  members = members_answer_settled (λ ms ns. members_settled lt_not_both)

  pub closure : {s k : Bytes} {r q : Result Counts Refusal} {k₁ k₂ : Bytes} → ClosureAnswer c s k r k₁ → ClosureAnswer c s k q k₂ → SameClosure r q k₁ k₂
  closure = closure_answer_settled (λ ds es vs ws a b. (
    lists_same (λ d e. lt_not_both d.digest e.digest) (λ d h. h) (λ d h. h) a.delegations b.delegations,
    lists_same (λ v w. lt_not_both v.digest w.digest) (λ v h. h) (λ v h. h) a.revocations b.revocations,
  ))
