-- Two graphs that match on what is in scope give the same answers there. Used twice: for two stores with one closure (OneClosure), and
-- for the places that the evaluation computes on against the bytes that they stand for (Places).
-- Idea: `simulate`, stratum by stratum: positive, excluded, covered, live covered (by induction on the least set), live, caps (each side's
-- caps cut down by the other's stay a pre-fixed point), effective, conveyed. A section takes a match each way, `a` there and `b` back,
-- and what it shows serves the next one in both directions.
use Prim.Native.Nat.{ℕ, min, ◌≤◌}
use mathlib.Core.Logic.{◌⊎◌, inl, inr, ⊎_elim, ⊎_map, ◌↔◌}
use mathlib.Core.Option.{Option}
use mathlib.Core.Path.{◌≡◌, subst}
use native.Mathlib.Omega.{arith}
use Rattle.rules.specs.Rules.{Shape, Graph, Stands, Answer, Nobody, Positive, Excluded, revoker, administered, Covered, Uncovered, Eligible, LiveCovered, Usable, LiveUncovered, Live, Avoiding, PreFixed, Caps, Effective, Conveys, cap, plain, nothing, StandingIs, is_live, is_revoked, is_unsupported, Standing}
use Rattle.rules.proofs.Derivations.Answers.{Under, answer_carry, greatest_carry}
use Rattle.rules.proofs.Derivations.Simulate.{Sim, simulate, simulate_at}
use Rattle.rules.proofs.Derivations.Monotone.{reach, mono, at_admin}
use Rattle.rules.proofs.Evaluation.LiveSet.{live_in, live_induct, live_held}
use Rattle.rules.proofs.Evaluation.Caps.{caps_pre}

-- K: corresponding keys. D: corresponding delegations in scope. R, R': keys in scope as subjects.
pub record Match {W W' : Shape} (G : Graph W) (G' : Graph W') (K : W.Key → W'.Key → Type 0) (D : W.Del → W'.Del → Type 0)
    (R : W.Key → Type 0) (R' : W'.Key → Type 0) : Type 0 where
  pub one : {x y : W.Key} {z : W'.Key} → K x z → K y z → x ≡ y
  pub alone : {d e : W.Del} {f : W'.Del} → D d f → D e f → d ≡ e
  pub scope : {r : W.Key} {r' : W'.Key} → R r → K r r' → R' r'
  pub grow : {r u : W.Key} {l : ℕ} → R r → Positive G r u l → R u
  pub find : {d : W.Del} → G.Held d → R (W.subject d) → (e : W'.Del) × D d e
  pub inside : {d : W.Del} {e : W'.Del} → D d e → R (W.subject d)
  pub held : {d : W.Del} {e : W'.Del} → D d e → G'.Held e
  pub issuer : {d : W.Del} {e : W'.Del} → D d e → K (W.issuer d) (W'.issuer e)
  pub audience : {d : W.Del} {e : W'.Del} → D d e → K (W.audience d) (W'.audience e)
  pub subject : {d : W.Del} {e : W'.Del} → D d e → K (W.subject d) (W'.subject e)
  pub power : {d : W.Del} {e : W'.Del} → D d e → W.power d ≡ W'.power e
  pub revokes : {k : W.Key} {d : W.Del} {e : W'.Del} → D d e → G.Revokes k d → (k' : W'.Key) × K k k' × G'.Revokes k' e

-- One way: derivations, N(d), coverage.
module _ {W W' : Shape} {G : Graph W} {G' : Graph W'} {K : W.Key → W'.Key → Type 0} {D : W.Del → W'.Del → Type 0}
    {R : W.Key → Type 0} {R' : W'.Key → Type 0}
    (a : Match G G' K D R R') (b : Match G' G (λ x y. K y x) (λ d e. D e d) R' R) where
  -- What is derived from held delegations in scope is derived there too ..
  module _ {E : W.Del → Type 0} {N : W.Key → Type 0} {c : W.Del → ℕ} {E' : W'.Del → Type 0} {N' : W'.Key → Type 0} {c' : W'.Del → ℕ}
      (held : (d : W.Del) → E d → G.Held d) (usable : (d : W.Del) (e : W'.Del) → D d e → E d → E' e)
      (out : (n : W.Key) (n' : W'.Key) → R n → K n n' → ¬ N n → ¬ N' n') (level : (d : W.Del) (e : W'.Del) → D d e → E d → c d ≤ c' e) where
    sim : Sim W W' K E N c E' N' c' R
    sim = record {
      one = a.one;
      grow = λ ρ s. a.grow ρ (reach held (λ n m. absurd m) s).holds;
      out = out _ _;
      edge = λ {d} e ρ α k i n. let f = a.find (held d e) ρ in let s = f.1 in record {
        del = f.0;
        usable = usable d f.0 s e;
        subject = b.one (a.subject s) k;
        issuer = b.one (a.issuer s) i;
        audience = a.audience s;
        level = level d f.0 s e;
      };
    }

    -- .. at the corresponding key: for one, at the issuer of a corresponding delegation.
    under : {r x : W.Key} {r' x' : W'.Key} → R r → K r r' → K x x' → Under (Stands W E N c r x) (Stands W' E' N' c' r' x')
    under = simulate_at W W' K sim (λ y z. b.one)

    under_issuer : {d : W.Del} {e : W'.Del} → D d e
        → Under (Stands W E N c (W.subject d) (W.issuer d)) (Stands W' E' N' c' (W'.subject e) (W'.issuer e))
    under_issuer s = under (a.inside s) (a.subject s) (a.issuer s)

  power_le : {d : W.Del} {e : W'.Del} → D d e → W.power d ≤ W'.power e
  power_le s = omega (arith, a.power s)

  positive_sim : Sim W W' K G.Held Nobody W.power G'.Held Nobody W'.power R
  positive_sim = sim (λ d h. h) (λ d e s h. a.held s) (λ n n' ρ k m z. z) (λ d e s h. power_le s)

  pub positive_under : {r x : W.Key} {r' x' : W'.Key} → R r → K r r' → K x x' → Under (Positive G r x) (Positive G' r' x')
  positive_under = simulate_at W W' K positive_sim (λ y z. b.one)

  module _ {d : W.Del} {e : W'.Del} (s : D d e) where
    revokes_match : {k : W.Key} {k' : W'.Key} → K k k' → G.Revokes k d → G'.Revokes k' e
    revokes_match k r = let q = a.revokes s r in subst (λ x. G'.Revokes x e) (b.one q.1 k) q.2

    excl_match : {n : W.Key} {n' : W'.Key} → R n → K n n' → Excluded G d n → Excluded G' e n'
    excl_match ρ k (revoker r) = revoker (revokes_match k r)
    excl_match ρ k (administered f x h p r t) =
        let g = a.find h (rw p ρ) in
        let q = a.revokes s r in
        administered g.0 q.0 (a.held g.1) (b.one (a.subject g.1) (rw p k)) q.2 (at_admin (positive_under ρ k q.1 _ t))

    covered_match : Covered G d → Covered G' e
    covered_match c =
        let i = simulate W W' K positive_sim _ (a.inside s) (a.subject s) c.stands in
        record {
          held = a.held s;
          key = i.key;
          excluded = excl_match (a.grow (a.inside s) c.stands) i.same c.excluded;
          level = i.stands.level;
          stands = i.stands.holds;
        }

-- With the way back, what is not excluded and not covered: the live set, and the caps.
module _ {W W' : Shape} {G : Graph W} {G' : Graph W'} {K : W.Key → W'.Key → Type 0} {D : W.Del → W'.Del → Type 0}
    {R : W.Key → Type 0} {R' : W'.Key → Type 0}
    (a : Match G G' K D R R') (b : Match G' G (λ x y. K y x) (λ d e. D e d) R' R) where
  module _ {d : W.Del} {e : W'.Del} (s : D d e) where
    uncovered_match : Uncovered G d → Uncovered G' e
    uncovered_match u = record { held = a.held s; not = λ c. u.not (covered_match b a s c) }

    not_excl : (n : W.Key) (n' : W'.Key) → R n → K n n' → ¬ Excluded G d n → ¬ Excluded G' e n'
    not_excl n n' ρ k o x = o (excl_match b a s (a.scope ρ k) k x)

    eligible_match : R (W.issuer d) → Eligible G d → Eligible G' e
    eligible_match ρ g = record {
      covered = covered_match a b s g.covered;
      issuer = not_excl _ _ ρ (a.issuer s) g.issuer;
      subject = not_excl _ _ (a.inside s) (a.subject s) g.subject;
      audience = λ r. g.audience (revokes_match b a s (a.audience s) r);
    }

  -- the uncovered ones and live covered ones, P, are held
  used_held : {P : W.Del → Type 0} → ((d : W.Del) → P d → LiveCovered G d) → (d : W.Del) → Uncovered G d ⊎ P d → G.Held d
  used_held f d = ⊎_elim (λ u. u.held) (λ p. live_held (inr (f d p)))

  pub live_covered_match : {d : W.Del} {e : W'.Del} → D d e → LiveCovered G d → LiveCovered G' e
  live_covered_match {e = e} s v = live_induct (λ d. (e : W'.Del) → D d e → LiveCovered G' e) (λ d l g t e s.
      let held = used_held (λ d v. v.0) in
      let issuer = a.grow (a.inside s) (reach held (λ n m. absurd m) t).holds in
      let reached = under_issuer a b {E' = Usable G'} {N' = Excluded G' e} {c' = W'.power} held
      (λ d e s. ⊎_map (uncovered_match s) (λ v. v.1 e s)) (not_excl s) (λ d e s h. power_le a b s) s l t in
      live_in (eligible_match s issuer g) reached.holds) v e s

  pub live_uncovered_match : {d : W.Del} {e : W'.Del} → D d e → LiveUncovered G d → LiveUncovered G' e
  live_uncovered_match s v =
      let i = under_issuer a b {E' = Usable G'} {N' = Nobody} {c' = W'.power} (used_held (λ d v. v))
      (λ d e s. ⊎_map (uncovered_match s) (live_covered_match s)) (λ n n' ρ k z. z) (λ d e s h. power_le a b s) s _ v.stands in
      record { uncovered = uncovered_match s v.uncovered; level = i.level; stands = i.holds }

  live_match : (d : W.Del) (e : W'.Del) → D d e → Live G d → Live G' e
  live_match d e s = ⊎_map (live_uncovered_match s) (live_covered_match s)

  module _ {κ : W.Del → ℕ} {κ' : W'.Del → ℕ} (le : (d : W.Del) (e : W'.Del) → D d e → Live G d → κ d ≤ κ' e) where
    pub avoiding_match : {d : W.Del} {e : W'.Del} → D d e → Under (Avoiding G κ d) (Avoiding G' κ' e)
    avoiding_match s = under_issuer a b (λ d. live_held) live_match (not_excl s) le s

    effective_match : {r x : W.Key} {r' x' : W'.Key} → R r → K r r' → K x x' → Under (Effective G κ r x) (Effective G' κ' r' x')
    effective_match = under a b (λ d. live_held) live_match (λ n n' ρ k z. z) le

  module _ (seek : (d : W.Del) → Dec ((e : W'.Del) × D d e)) {κ : W.Del → ℕ} {κ' : W'.Del → ℕ} (k : Caps G κ) (k' : Caps G' κ') where
    -- κ at d, cut down to κ' where d has a counterpart
    record Cut (d : W.Del) : Type 0 where
      level : ℕ
      here : level ≤ κ d
      there : (e : W'.Del) → D d e → level ≤ κ' e
      most : (m : ℕ) → m ≤ κ d → ((e : W'.Del) → D d e → m ≤ κ' e) → m ≤ level

    cut : (d : W.Del) → Cut d
    cut d = elim (seek d) [
      | yes f ↦ record {
        level = min (κ d) (κ' f.0);
        here = omega arith;
        there = λ e s. rw (b.alone s f.1) (omega arith);
        most = λ m h t. omega (arith, t f.0 f.1);
      }
      | no n ↦ record { level = κ d; here = omega arith; there = λ e s. absurd (n (e, s)); most = λ m h t. h }
    ]

    cut_pre : PreFixed G (λ d. (cut d).level)
    cut_pre = record {
      rest = λ d u. let h = k.rest d u in
          let m = (cut d).most (W.power d) (omega arith) (λ e s. omega (arith, k'.rest e (live_uncovered_match s u), a.power s)) in
          omega (arith, (cut d).here);
      above = λ d v l t. (cut d).most (min (W.power d) l)
          (let i = mono {c' = κ} (λ d h. h) (λ n h. h) (λ d h. (cut d).here) t in omega (arith, (caps_pre k).above d v _ i.holds))
          (λ e s. let j = avoiding_match (λ d e s h. (cut d).there e s) s l t in
          omega (arith, (caps_pre k').above e (live_covered_match s v) _ j.holds, a.power s));
    }

    caps_le : (d : W.Del) (e : W'.Del) → D d e → Live G d → κ d ≤ κ' e
    caps_le d e s (inr v) = omega (arith, k.least _ cut_pre d v, (cut d).there e s)
    caps_le d e s (inl u) = omega (arith, k.rest d u, k'.rest e (live_uncovered_match s u), a.power s)

-- The answers.
module _ {W W' : Shape} {G : Graph W} {G' : Graph W'} {K : W.Key → W'.Key → Type 0} {D : W.Del → W'.Del → Type 0}
    {R : W.Key → Type 0} {R' : W'.Key → Type 0}
    (a : Match G G' K D R R') (b : Match G' G (λ x y. K y x) (λ d e. D e d) R' R) where
  pub positive_same : {r x : W.Key} {r' x' : W'.Key} {o : Option ℕ} → R r → K r r' → K x x' → Answer (Positive G r x) o → Answer (Positive G' r' x') o
  positive_same ρ k i = answer_carry (positive_under a b ρ k i) (positive_under b a (a.scope ρ k) k i)

  pub live_same : {d : W.Del} {e : W'.Del} → D d e → Live G d ↔ Live G' e
  live_same s = (live_match a b _ _ s, live_match b a _ _ s)

  pub standing_same : {d : W.Del} {e : W'.Del} {o : Standing} → D d e → StandingIs G d o → StandingIs G' e o
  standing_same s (is_live v) = is_live ((live_same s).0 v)
  standing_same s (is_revoked k h n r) = let q = a.revokes s r in is_revoked q.0 (a.held s) (λ v. n ((live_same s).1 v)) q.2
  standing_same s (is_unsupported h n r) =
      is_unsupported (a.held s) (λ v. n ((live_same s).1 v)) (λ k t. let q = b.revokes s t in r q.0 q.2)

  module _ (seek : (d : W.Del) → Dec ((e : W'.Del) × D d e)) (seek' : (e : W'.Del) → Dec ((d : W.Del) × D d e))
      {κ : W.Del → ℕ} {κ' : W'.Del → ℕ} (k : Caps G κ) (k' : Caps G' κ') where
    -- effective derivations are under each other
    both : {r x : W.Key} {r' x' : W'.Key} → R r → K r r' → K x x'
        → Under (Effective G κ r x) (Effective G' κ' r' x') × Under (Effective G' κ' r' x') (Effective G κ r x)
    both ρ i j = (effective_match a b (caps_le a b seek k k') ρ i j, effective_match b a (caps_le b a seek' k' k) (a.scope ρ i) i j)

    pub effective_same : {r x : W.Key} {r' x' : W'.Key} {o : Option ℕ} → R r → K r r' → K x x'
        → Answer (Effective G κ r x) o → Answer (Effective G' κ' r' x') o
    effective_same ρ i j = let u = both ρ i j in answer_carry u.0 u.1

    pub conveys_same : {d : W.Del} {e : W'.Del} {o : Option ℕ} → D d e → Conveys G κ d o → Conveys G' κ' e o
    conveys_same {d} {e} s (cap v) =
        let w = live_covered_match a b s v in
        let h : κ d ≡ κ' e = omega (arith, caps_le a b seek k k' d e s (inr v), caps_le b a seek' k' k e d s (inr w)) in
        rw h (cap w)
    conveys_same s (plain l v g) = let u = both (a.inside s) (a.subject s) (a.issuer s) in
        rw (a.power s) (plain l (live_uncovered_match a b s v) (greatest_carry u.0 u.1 g))
    conveys_same s (nothing n) = nothing (λ v. n ((live_same s).1 v))
