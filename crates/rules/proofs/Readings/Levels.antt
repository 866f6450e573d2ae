-- A harmless reading derives the same levels as Rules (`there`, `back`), whichever caps κ of Rules and κ' by the reading they are asked with
-- (`caps_between`).
-- Idea: κ' is nowhere above κ, for κ is a pre-fixed point by the reading too. Nor does κ' derive less (`lift`). For an odd d, uncovered by
-- Rules and so at its power there, κ' d is at least min(power, l) for each level l of its issuer over its subject, since a derivation
-- of that level does not meet N(d); and D2 asks for no more, min(l, min(power, l)) being min(l, power). So κ' on the covered
-- ones, with the power on all others, is a pre-fixed point of Rules, and κ is nowhere above it.
use Prim.Native.Nat.{ℕ, min, ◌≤◌}
use mathlib.Core.Logic.{inl, inr}
use mathlib.Core.Path.{◌≡◌, refl}
use native.Mathlib.Omega.{arith}
use Rattle.rules.specs.Rules.{Shape, Graph, Stands, d1, d2, d3, LiveCovered, LiveUncovered, Live, Effective, PreFixed, Caps}
use Rattle.rules.specs.Readings.{Reading, LiveCoveredBy, LiveBy, AvoidingBy, PreFixedBy, CapsBy}
use Rattle.rules.proofs.Derivations.Answers.{AtLeast, Under, just}
use Rattle.rules.proofs.Derivations.Monotone.{mono, over_edge, over_through}
use Rattle.rules.proofs.Evaluation.LiveSet.{live_eligible}
use Rattle.rules.proofs.Evaluation.Caps.{capped_above, caps_pre}
use Rattle.rules.proofs.Readings.Live.{Harmless, outside, live_by_held, plain_back, covered_back, live_back, covered_there, plain_there}

module _ {W : Shape} {G : Graph W} {R : Reading W} where
  pub caps_pre_by : {κ : W.Del → ℕ} → CapsBy G R κ → PreFixedBy G R κ
  caps_pre_by k = record {
    rest = k.rest;
    above = λ d v l s. let q = k.equation d v in rw q.equation (capped_above (W.power d) q.greatest l s);
  }

module _ {W : Shape} {G : Graph W} {R : Reading W} (h : Harmless G R) where
  pub pre_there : {κ : W.Del → ℕ} → PreFixed G κ → PreFixedBy G R κ
  pre_there {κ} p = record {
    rest = λ d u. p.rest d (plain_back h u);
    above = λ d v l s. elim (covered_back h v) [
      | inl u ↦ omega (arith, p.rest d u)
      | inr w ↦ let i = mono {c' = κ} (live_back h) (λ n x. x) (λ d v. omega arith) s in omega (arith, p.above d w _ i.holds)
    ];
  }

  module _ {κ' : W.Del → ℕ} (pre : PreFixedBy G R κ') where
    -- an odd one passes on what its issuer has, up to its power
    pub odd_passes : {N : W.Key → Type 0} {d : W.Del} {l : ℕ} → LiveUncovered G d → LiveCoveredBy G R d
        → Stands W (LiveBy G R) N κ' (W.subject d) (W.issuer d) l → min (W.power d) l ≤ κ' d
    odd_passes u v s = pre.above _ v _ (outside (live_by_held h) u.uncovered s)

    module _ {N : W.Key → Type 0} {c : W.Del → ℕ} (low : (d : W.Del) → LiveCovered G d → c d ≤ κ' d)
        (rest : (d : W.Del) → LiveUncovered G d → c d ≤ W.power d) where
      edge : {r : W.Key} {l : ℕ} (d : W.Del) → Live G d → W.subject d ≡ r → ¬ N (W.audience d)
          → AtLeast (Stands W (LiveBy G R) N κ' r (W.issuer d)) l → AtLeast (Stands W (LiveBy G R) N κ' r (W.audience d)) (min l (c d))
      edge d (inr v) p n a = over_edge d (inr (covered_there h v)) p n (low d v) a
      edge {r} {l} d (inl u) p n a = elim (plain_there h u) [
        | inl w ↦ over_edge d (inl w) p n (omega (arith, rest d u, pre.rest d w)) a
        | inr v ↦ let o = odd_passes {N = N} {d = d} {l = a.level} u v (rw p a.holds) in
            record { level = min a.level (κ' d); more = omega (arith, rest d u, a.more); holds = d2 d (inr v) p n a.holds }
      ]

      pub lift : {r x : W.Key} {l : ℕ} → Stands W (Live G) N c r x l → AtLeast (Stands W (LiveBy G R) N κ' r x) l
      lift (d1 n) = just (d1 n)
      lift (d2 d e p n s) = edge d e p n (lift s)
      lift (d3 ne s t) = over_through ne (lift s) (lift t)

    -- κ' on the covered ones, the power on all others
    pub record Part (d : W.Del) : Type 0 where
      pub level : ℕ
      pub covered : LiveCovered G d → level ≡ κ' d
      pub rest : LiveUncovered G d → level ≡ W.power d

    pub part : (d : W.Del) → Part d
    part d = elim (h.decide d) [
      | yes c ↦ record { level = κ' d; covered = λ v. refl; rest = λ u. absurd (u.uncovered.not c) }
      | no n ↦ record { level = W.power d; covered = λ v. absurd (n (live_eligible v).covered); rest = λ u. refl }
    ]

    part_pre : PreFixed G (λ d. (part d).level)
    part_pre = record {
      rest = λ d. (part d).rest;
      above = λ d v l s.
          let i = lift (λ d v. omega (arith, (part d).covered v)) (λ d u. omega (arith, (part d).rest u)) s in
          omega (arith, pre.above d (covered_there h v) _ i.holds, (part d).covered v);
    }

    pub caps_low : {κ : W.Del → ℕ} {d : W.Del} → Caps G κ → LiveCovered G d → κ d ≤ κ' d
    caps_low {d = d} k v = omega (arith, k.least _ part_pre d v, (part d).covered v)

  -- κ of Rules against κ' by the reading: κ' is no higher, and is a pre-fixed point that is no lower where Rules has a cap.
  pub record Between (κ κ' : W.Del → ℕ) : Type 0 where
    pub rest : (d : W.Del) → LiveUncovered G d → κ d ≡ W.power d
    pub high : (d : W.Del) → LiveBy G R d → κ' d ≤ κ d
    pub pre : PreFixedBy G R κ'
    pub low : (d : W.Del) → LiveCovered G d → κ d ≤ κ' d

  pub caps_between : {κ κ' : W.Del → ℕ} → Caps G κ → CapsBy G R κ' → Between κ κ'
  caps_between {κ} {κ'} k k' = record { rest = k.rest; high = high; pre = caps_pre_by k'; low = λ d. caps_low (caps_pre_by k') k }
    where
      high : (d : W.Del) → LiveBy G R d → κ' d ≤ κ d
      high d (inl u) = omega (arith, k'.rest d u, k.rest d (plain_back h u))
      high d (inr v) = k'.least κ (pre_there (caps_pre k)) d v

  module _ {κ κ' : W.Del → ℕ} (b : Between κ κ') where
    module _ {N : W.Key → Type 0} {r x : W.Key} where
      pub there : Under (Stands W (Live G) N κ r x) (Stands W (LiveBy G R) N κ' r x)
      there l = lift b.pre b.low (λ d u. omega (arith, b.rest d u))

      pub back : Under (Stands W (LiveBy G R) N κ' r x) (Stands W (Live G) N κ r x)
      back l = mono (live_back h) (λ n z. z) b.high

    -- the level that the cap of an odd one rests on is its issuer's effective level
    module _ {d : W.Del} (u : LiveUncovered G d) where
      pub odd_there : Under (Effective G κ (W.subject d) (W.issuer d)) (AvoidingBy G R κ' d)
      odd_there l s = let i = there l s in record { level = i.level; more = i.more; holds = outside (live_by_held h) u.uncovered i.holds }

      pub odd_back : Under (AvoidingBy G R κ' d) (Effective G κ (W.subject d) (W.issuer d))
      odd_back l = mono (live_back h) (λ n z. absurd z) b.high
