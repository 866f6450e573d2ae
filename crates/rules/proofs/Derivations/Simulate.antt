-- The simulation theorem, `simulate`: what is derived from E, N and c of the shape W is derived, at no lower a level, from E', N' and c'
-- of W', for corresponding keys. Demand 3 (Stores/OneClosure) and the way from places to bytes (Stores/Places) both follow from it.
-- `K x x'`: the keys x and x' correspond. `R r`: the root r is in scope; only roots in scope need to correspond.
-- `Sim` lists what that takes: each rule's premises have their counterpart.
use Prim.Native.Nat.{ℕ, ◌≤◌}
use mathlib.Core.Path.{◌≡◌}
use Rattle.rules.specs.Rules.{Shape, Stands, d1, d2, d3}
use Rattle.rules.proofs.Derivations.Answers.{AtLeast, Under, just}
use Rattle.rules.proofs.Derivations.Monotone.{over_edge, over_through}

module _ (W W' : Shape) (K : W.Key → W'.Key → Type 0) where
  -- a key that corresponds to x and stands at l or more
  pub record Image (P : W'.Key → ℕ → Type 0) (x : W.Key) (l : ℕ) : Type 0 where
    pub key : W'.Key
    pub same : K x key
    pub stands : AtLeast (P key) l

  module _ (E : W.Del → Type 0) (N : W.Key → Type 0) (c : W.Del → ℕ) (E' : W'.Del → Type 0) (N' : W'.Key → Type 0) (c' : W'.Del → ℕ) where
    -- what D2 needs in W' for d, where r' and u' correspond to its subject and issuer
    pub record Edge (r' u' : W'.Key) (d : W.Del) : Type 0 where
      pub del : W'.Del
      pub usable : E' del
      pub subject : W'.subject del ≡ r'
      pub issuer : W'.issuer del ≡ u'
      pub audience : K (W.audience d) (W'.audience del)
      pub level : c d ≤ c' del

    pub record Sim (R : W.Key → Type 0) : Type 0 where
      pub one : {x y : W.Key} {z : W'.Key} → K x z → K y z → x ≡ y
      pub grow : {r u : W.Key} {l : ℕ} → R r → Stands W E N c r u l → R u
      pub out : {r : W.Key} {r' : W'.Key} → R r → K r r' → ¬ N r → ¬ N' r'
      pub edge : {d : W.Del} {r' u' : W'.Key} → E d → R (W.subject d) → R (W.audience d) → K (W.subject d) r' → K (W.issuer d) u'
          → ¬ N (W.audience d) → Edge r' u' d

  module _ {E : W.Del → Type 0} {N : W.Key → Type 0} {c : W.Del → ℕ}
      {E' : W'.Del → Type 0} {N' : W'.Key → Type 0} {c' : W'.Del → ℕ} {R : W.Key → Type 0} (S : Sim E N c E' N' c' R) where
    pub simulate : {r x : W.Key} {l : ℕ} (r' : W'.Key) → R r → K r r' → Stands W E N c r x l → Image (Stands W' E' N' c' r') x l
    simulate r' ρ k (d1 n) = record { key = r'; same = k; stands = just (d1 (S.out ρ k n)) }
    simulate r' ρ k (d2 d e p n s) =
        let i = simulate r' ρ k s in
        let α = S.grow ρ (d2 d e p n s) in
        let g = S.edge {d = d} {r' = r'} e (rw p ρ) α (rw p k) i.same n in
        record {
          key = _;
          same = g.audience;
          stands = over_edge g.del g.usable g.subject (S.out α g.audience n) g.level (rw g.issuer i.stands);
        }
    simulate r' ρ k (d3 ne s t) =
        let i = simulate r' ρ k s in
        let j = simulate i.key (S.grow ρ s) i.same t in
        record { key = j.key; same = j.same; stands = over_through (λ q. ne (S.one i.same (rw q k))) i.stands j.stands }

    -- the same at a key that is known to correspond, where at most one does
    pub simulate_at : {r x : W.Key} {r' x' : W'.Key} → ((y z : W'.Key) → K x y → K x z → y ≡ z) → R r → K r r' → K x x'
        → Under (Stands W E N c r x) (Stands W' E' N' c' r' x')
    simulate_at {r' = r'} other ρ k j l s = let i = simulate r' ρ k s in rw (other _ _ i.same j) at i.stands
