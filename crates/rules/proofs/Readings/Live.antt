-- A reading that is harmless has the same live delegations as Rules (`live_there`, `live_back`).
-- Harmless: it is decided what is covered and what counts as covered; what is covered counts as covered, and of the covered ones the same may
-- join; and one that merely counts as covered, an odd one, may join unless its issuer, subject or audience is in its way.
-- Idea: an odd d is uncovered, so nobody in N(d) stands positively over its subject. Then a derivation over its subject never meets N(d)
-- (`outside`): it stands also with N(d) excluded, and d joins as soon as its issuer stands at all (`odd_joins`), which is when an
-- uncovered one is live. A derivation through odd ones is therefore one through members of the live set, from its leaves on (`settle`).
use Prim.Native.Nat.{ℕ}
use mathlib.Core.Logic.{◌⊎◌, inl, inr, ⊎_elim, ⊎_map}
use mathlib.Core.Path.{refl}
use Rattle.rules.specs.Rules.{Shape, Graph, Stands, d1, d2, d3, Nobody, Positive, Excluded, revoker, Covered, Uncovered, Eligible, LiveCovered, Usable, LiveUncovered, Live}
use Rattle.rules.specs.Readings.{Reading, UncoveredBy, LiveCoveredBy, UsableBy, LiveUncoveredBy, LiveBy}
use Rattle.rules.proofs.Derivations.Answers.{just}
use Rattle.rules.proofs.Derivations.Monotone.{reach, widen, stands_out}
use Rattle.rules.proofs.Evaluation.LiveSet.{live_in, live_induct}
use Rattle.rules.proofs.Readings.LiveSet.{in_by, induct_by, joined, reached_by}

pub record Harmless {W : Shape} (G : Graph W) (R : Reading W) : Type 0 where
  pub decide : (d : W.Del) → Dec (Covered G d)
  pub told : (d : W.Del) → Dec (R.Counts d)
  pub counts : {d : W.Del} → Covered G d → R.Counts d
  pub held : {d : W.Del} → R.Counts d → G.Held d
  pub counted : {d : W.Del} → R.Joins d → R.Counts d
  pub there : {d : W.Del} → Eligible G d → R.Joins d
  pub back : {d : W.Del} → R.Joins d → Covered G d → ¬ Excluded G d (W.issuer d) → ¬ Excluded G d (W.subject d) → Eligible G d
  pub odd : {d : W.Del} → R.Counts d → Uncovered G d → ¬ Excluded G d (W.issuer d) → ¬ Excluded G d (W.subject d)
      → ¬ G.Revokes (W.audience d) d → R.Joins d

-- Where no key that stands over r through H is in N', a derivation over r from delegations of H is one with N' excluded: all its keys
-- stand over r through H.
module _ {W : Shape} {H E : W.Del → Type 0} {N N' : W.Key → Type 0} {c k : W.Del → ℕ} (held : (d : W.Del) → E d → H d) where
  around : {r x : W.Key} {l : ℕ} → ((y : W.Key) (m : ℕ) → Stands W H Nobody k r y m → ¬ N' y) → Stands W E N c r x l → Stands W E N' c r x l
  around f (d1 n) = d1 (f _ _ (d1 (λ z. z)))
  around f (d2 d e p n s) = d2 d e p (f _ _ (d2 d (held d e) p (λ z. z) (reach held (λ n z. absurd z) s).holds)) (around f s)
  around f (d3 ne s t) = d3 ne (around f s) (around (λ y m q. f y _ (d3 ne (reach held (λ n z. absurd z) s).holds q)) t)

module _ {W : Shape} {G : Graph W} where
  avoids : {d : W.Del} (y : W.Key) (m : ℕ) → Uncovered G d → Positive G (W.subject d) y m → ¬ Excluded G d y
  avoids y m u p x = u.not (record { held = u.held; key = y; excluded = x; level = m; stands = p })

  pub outside : {E : W.Del → Type 0} {N : W.Key → Type 0} {c : W.Del → ℕ} {d : W.Del} {x : W.Key} {l : ℕ} → ((e : W.Del) → E e → G.Held e)
      → Uncovered G d → Stands W E N c (W.subject d) x l → Stands W E (Excluded G d) c (W.subject d) x l
  outside held u = around held (λ y m p. avoids y m u p)

module _ {W : Shape} {G : Graph W} {R : Reading W} (h : Harmless G R) where
  usable_held : (d : W.Del) → UsableBy G R d → G.Held d
  usable_held d = ⊎_elim (λ u. u.held) (λ v. h.held (h.counted (joined v)))

  pub live_by_held : (d : W.Del) → LiveBy G R d → G.Held d
  live_by_held d = ⊎_elim (λ u. u.uncovered.held) (λ v. h.held (h.counted (joined v)))

  uncovered_back : {d : W.Del} → UncoveredBy G R d → Uncovered G d
  uncovered_back u = record { held = u.held; not = λ c. u.not (h.counts c) }

  odd_joins : {N : W.Key → Type 0} {c : W.Del → ℕ} {d : W.Del} {l : ℕ} → R.Counts d → Uncovered G d
      → Stands W (UsableBy G R) N c (W.subject d) (W.issuer d) l → LiveCoveredBy G R d
  odd_joins {d = d} k u s =
      let t = outside usable_held u s in
      let p = reach {N' = Nobody} {c' = W.power} usable_held (λ n z. absurd z) s in
      let a = avoids {d = d} _ _ u (d2 d u.held refl (λ z. z) p.holds) in
      in_by (h.odd k u (stands_out t).1 (stands_out t).0 (λ r. a (revoker r))) (reach (λ e v. v) (λ n x. x) t).holds

  -- One way: what counts as covered and is live is usable by Rules, as uncovered or as live covered.
  usable_back : {d : W.Del} → LiveCoveredBy G R d → Usable G d
  usable_back = induct_by (Usable G) (λ d l e s. elim (h.decide d) [
    | yes c ↦ inr (live_in (h.back e c (stands_out s).1 (stands_out s).0) (widen (λ d. ⊎_elim (λ u. inl (uncovered_back u)) (λ v. v.1)) (just s)).holds)
    | no n ↦ inl (record { held = h.held (h.counted e); not = n })
  ])

  lives_back : {N : W.Key → Type 0} {c : W.Del → ℕ} {d : W.Del} {l : ℕ} → Uncovered G d
      → Stands W (UsableBy G R) N c (W.subject d) (W.issuer d) l → LiveUncovered G d
  lives_back u s =
      let i = reach {N' = Nobody} {c' = W.power} (λ d. ⊎_elim (λ u. inl (uncovered_back u)) usable_back) (λ n z. absurd z) s in
      record { uncovered = u; level = i.level; stands = i.holds }

  pub plain_back : {d : W.Del} → LiveUncoveredBy G R d → LiveUncovered G d
  plain_back u = lives_back (uncovered_back u.uncovered) u.stands

  pub covered_back : {d : W.Del} → LiveCoveredBy G R d → Live G d
  covered_back v = ⊎_map (λ u. lives_back u (reached_by v).holds) (λ w. w) (usable_back v)

  pub live_back : (d : W.Del) → LiveBy G R d → Live G d
  live_back d = ⊎_elim (λ u. inl (plain_back u)) covered_back

  -- The other way: of the uncovered ones that a derivation uses, those that count as covered have joined.
  settle : {N : W.Key → Type 0} {c : W.Del → ℕ} {r x : W.Key} {l : ℕ} → Stands W (λ e. Uncovered G e ⊎ LiveCoveredBy G R e) N c r x l
      → Stands W (UsableBy G R) N c r x l
  settle (d1 n) = d1 n
  settle {N} {c} (d2 {r} {l} d e p n s) = let t = settle s in d2 d (⊎_elim (usable t) inr e) p n t
    where
      usable : Stands W (UsableBy G R) N c r (W.issuer d) l → Uncovered G d → UsableBy G R d
      usable t u = elim (h.told d) [ yes k ↦ inr (odd_joins {N = N} {c = c} {l = l} k u (rw p t)) | no k ↦ inl (record { held = u.held; not = k }) ]
  settle (d3 ne s t) = d3 ne (settle s) (settle t)

  pub covered_there : {d : W.Del} → LiveCovered G d → LiveCoveredBy G R d
  covered_there = live_induct (LiveCoveredBy G R) (λ d l e s.
      in_by (h.there e) (settle (widen (λ e. ⊎_map (λ u. u) (λ v. v.1)) (just s)).holds))

  pub plain_there : {d : W.Del} → LiveUncovered G d → LiveBy G R d
  plain_there {d} u =
      let i = widen (λ e. ⊎_map (λ u. u) covered_there) (just u.stands) in
      let t = settle i.holds in
      elim (h.told d) [
        | yes k ↦ inr (odd_joins k u.uncovered t)
        | no k ↦ inl (record { uncovered = record { held = u.uncovered.held; not = k }; level = _; stands = t })
      ]

  pub live_there : (d : W.Del) → Live G d → LiveBy G R d
  live_there d = ⊎_elim plain_there (λ v. inr (covered_there v))
