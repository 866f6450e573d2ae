-- Demand 3, stated of the definitions: a subject's closure is all that its answers rest on.
-- `demand_3` of proofs/Stores/OneClosure proves it: of any two finite stores A and B, where `ListedIn A B s` and `ListedIn B A s`
-- hold, `RestsOnClosure A B s` does.
use Rattle.std.specs.Prelude.{ℕ, ◌≡◌, ◌↔◌, List}
use Rattle.std.proofs.Math.Option.{Option}
use Rattle.rules.specs.Rules.{Shape, Revocations, Store, graph, Closure, ClosureRev, PositiveIs, EffectiveIs, MembersAre, Live, ConveyedIs, Standing, StandingIs, DelegationTo, RevocationOf}

-- "whose closures of a subject list the same certificates with the same signers and contents": a delegation and a revocation are
-- their digest, signer and content, so what is listed in both is the same in both. This is the one half of it: what A lists, B lists.
pub record ListedIn {W : Shape} {F : Revocations W} (A B : Store W F) (s : W.Key) : Type 0 where
  pub dels : {d : W.Del} → Closure (graph A) s d → Closure (graph B) s d
  pub revs : {v : F.Rev} → ClosureRev A s v → ClosureRev B s v

-- "give the same positive and effective power of every key over it, the same members, and the same liveness and conveyed power for
-- every delegation in that closure"; and, by document 01, the same `delegations_to` of the subject, and the same `revocations_of` and
-- standing for closure delegations. Whatever answers of A and B satisfy the definitions, they are equal.
pub record RestsOnClosure {W : Shape} {F : Revocations W} (A B : Store W F) (s : W.Key) : Type 1 where
  pub positive : {x : W.Key} {o p : Option ℕ} → PositiveIs (graph A) s x o → PositiveIs (graph B) s x p → o ≡ p
  pub effective : {x : W.Key} {o p : Option ℕ} → EffectiveIs (graph A) s x o → EffectiveIs (graph B) s x p → o ≡ p
  -- (no two keys may each be less than the other)
  pub members : {Less : W.Key → W.Key → Type 0} {ms ns : List (W.Key × ℕ)} → ((x y : W.Key) → Less x y → ¬ Less y x)
      → MembersAre (graph A) Less s ms → MembersAre (graph B) Less s ns → ms ≡ ns
  pub live : {d : W.Del} → Closure (graph A) s d → Live (graph A) d ↔ Live (graph B) d
  pub conveyed : {d : W.Del} {o p : Option ℕ} → Closure (graph A) s d → ConveyedIs (graph A) d o → ConveyedIs (graph B) d p → o ≡ p
  pub standing : {d : W.Del} {o p : Standing} → Closure (graph A) s d → StandingIs (graph A) d o → StandingIs (graph B) d p → o ≡ p
  pub delegations : {x : W.Key} {d : W.Del} → DelegationTo (graph A) s x d ↔ DelegationTo (graph B) s x d
  pub revocations : {d : W.Del} {v : F.Rev} → Closure (graph A) s d → RevocationOf A d v ↔ RevocationOf B d v

-- B holds just the certificates that A's closure of s lists, as a tablet does that synced one drawing. (`closure_closed` of
-- proofs/Stores/OneClosure: then the two closures of s list the same certificates, so that demand 3 is about them.)
pub record JustClosure {W : Shape} {F : Revocations W} (A B : Store W F) (s : W.Key) : Type 0 where
  pub dels : {d : W.Del} → Closure (graph A) s d ↔ B.HeldDel d
  pub revs : {v : F.Rev} → ClosureRev A s v ↔ B.HeldRev v
