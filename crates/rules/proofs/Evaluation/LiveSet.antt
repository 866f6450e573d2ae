-- The live covered delegations: `LiveCovered` is the least set of document 01 (`live_set`), and there is no other (`live_unique`).
-- Idea: a derivation uses finitely many delegations (`finite`), so whoever is reached through members of the set is reached through a
-- finite list of them, and that is how `joins` builds it. Also: every level that caps and conveyed power ask for exists.
use Prim.Native.Nat.{ℕ}
use mathlib.Core.List.Memᴰ
use mathlib.Core.List.{List, [], ◌∷◌, Memᴰ, ◌++◌}
use mathlib.Core.Logic.{◌⊎◌, inl, inr, ⊎_map, ⊎_elim, ◌↔◌}
use mathlib.Core.Path.{refl}
use native.Mathlib.Omega.{arith}
use Rattle.rules.specs.Rules.{Shape, Graph, Stands, d1, d2, d3, Nobody, Uncovered, Eligible, Reached, LeastSet, Effective, LiveCovered, joins, Usable, LiveUncovered, Live, Avoiding}
use Rattle.rules.proofs.Derivations.Answers.{AtLeast, just, enough}
use Rattle.rules.proofs.Derivations.Monotone.{reach, over_edge, over_through, widen}

-- Of the delegations that are P, a derivation uses finitely many: `used`.
pub record Finite (W : Shape) (U P : W.Del → Type 0) (N : W.Key → Type 0) (c : W.Del → ℕ) (r x : W.Key) (l : ℕ) : Type 0 where
  pub used : List W.Del
  pub each : (e : W.Del) → Memᴰ e used → P e
  pub stands : AtLeast (Stands W (λ e. U e ⊎ Memᴰ e used) N c r x) l

-- A longer list serves too.
longer : {W : Shape} {U : W.Del → Type 0} {N : W.Key → Type 0} {c : W.Del → ℕ} {r x : W.Key} {l : ℕ} {es fs : List W.Del}
    → ((e : W.Del) → Memᴰ e es → Memᴰ e fs)
    → AtLeast (Stands W (λ e. U e ⊎ Memᴰ e es) N c r x) l → AtLeast (Stands W (λ e. U e ⊎ Memᴰ e fs) N c r x) l
longer h = widen (λ e. ⊎_map (λ u. u) (h e))

module _ {W : Shape} {U P : W.Del → Type 0} {N : W.Key → Type 0} {c : W.Del → ℕ} where
  pub finite : {r x : W.Key} {l : ℕ} → Stands W (λ e. U e ⊎ P e) N c r x l → Finite W U P N c r x l
  finite (d1 n) = record { used = []; each = λ e m. absurd (Memᴰ.not-nil m); stands = just (d1 n) }
  finite (d2 d (inl u) p n s) =
      let f = finite s in record { used = f.used; each = f.each; stands = over_edge d (inl u) p n (omega arith) f.stands }
  finite (d2 d (inr q) p n s) = let f = finite s in record {
    used = d ∷ f.used;
    each = λ e m. ⊎_elim (λ h. rw h q) (f.each e) (Memᴰ.cases_cons m);
    stands = over_edge d (inr (Memᴰ.head refl)) p n (omega arith) (longer (λ e. Memᴰ.tail) f.stands);
  }
  finite (d3 ne s t) = let f = finite s in let g = finite t in record {
    used = f.used ++ g.used;
    each = λ e m. ⊎_elim (f.each e) (g.each e) (Memᴰ.append_cases f.used m);
    stands = over_through ne (longer (λ e. Memᴰ.append_left g.used) f.stands) (longer (λ e. Memᴰ.append_right f.used) g.stands);
  }

module _ {W : Shape} {G : Graph W} where
  -- The set has every d that the rule puts there ..
  pub live_in : {d : W.Del} {l : ℕ} → Eligible G d → Reached G (Usable G) d l → LiveCovered G d
  live_in e s = let f = finite s in joins f.used e f.each f.stands.holds

  -- .. and is contained in every set P that has them; what the rule used is both live and in P.
  pub live_induct : (P : W.Del → Type 0)
      → ((d : W.Del) (l : ℕ) → Eligible G d → Reached G (λ e. Uncovered G e ⊎ (LiveCovered G e × P e)) d l → P d)
      → {d : W.Del} → LiveCovered G d → P d
  live_induct P step (joins {d} es e m s) =
      step d _ e (widen (λ e. ⊎_map (λ u. u) (λ k. (m e k, live_induct P step (m e k)))) (just s)).holds

  pub live_set : LeastSet G (LiveCovered G)
  live_set = record {
    has_all = λ d l. live_in;
    least = λ Q h d. live_induct Q (λ d l e s. h d _ e (widen (λ e. ⊎_map (λ u. u) (λ k. k.1)) (just s)).holds);
  }

  pub live_unique : {P : W.Del → Type 0} → LeastSet G P → (d : W.Del) → P d ↔ LiveCovered G d
  live_unique p d = (p.least (LiveCovered G) live_set.has_all d, live_set.least _ p.has_all d)

  -- What the rule asks of a live covered delegation.
  module _ {d : W.Del} where
    pub live_eligible : LiveCovered G d → Eligible G d
    live_eligible (joins es e m s) = e

    pub live_reached : LiveCovered G d → AtLeast (Reached G (Usable G) d) 0
    live_reached (joins es e m s) = enough (widen (λ e. ⊎_map (λ u. u) (m e)) (just s)) (omega arith)

    pub live_held : Live G d → G.Held d
    live_held = ⊎_elim (λ u. u.uncovered.held) (λ v. (live_eligible v).covered.held)

    pub plain_not_covered : LiveUncovered G d → ¬ LiveCovered G d
    plain_not_covered u v = u.uncovered.not (live_eligible v).covered

  -- A derivation uses a delegation only when its issuer stands: what is usable there is live.
  pub grounded : {N : W.Key → Type 0} {c : W.Del → ℕ} {r x : W.Key} {l : ℕ} → Stands W (Usable G) N c r x l → Stands W (Live G) N c r x l
  grounded (d1 n) = d1 n
  grounded (d2 d e p n s) = d2 d (⊎_map lives (λ v. v) e) p n (grounded s)
    where
      lives : Uncovered G d → LiveUncovered G d
      lives u = let i = reach {N' = Nobody} {c' = W.power} (λ e h. h) (λ n z. absurd z) s in
          record { uncovered = u; level = i.level; stands = rw p i.holds }
  grounded (d3 ne s t) = d3 ne (grounded s) (grounded t)

  -- So the levels that caps and conveyed power ask for exist.
  module _ (κ : W.Del → ℕ) where
    pub avoiding_exists : {d : W.Del} → LiveCovered G d → AtLeast (Avoiding G κ d) 0
    avoiding_exists v = reach (λ e h. h) (λ n h. h) (grounded (live_reached v).holds)

    pub effective_exists : {d : W.Del} → Live G d → AtLeast (Effective G κ (W.subject d) (W.issuer d)) 0
    effective_exists (inl u) = reach (λ e h. h) (λ n h. h) (grounded u.stands)
    effective_exists (inr v) = reach (λ e h. h) (λ n h. absurd h) (avoiding_exists v).holds
