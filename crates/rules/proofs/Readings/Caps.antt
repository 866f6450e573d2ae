-- Caps and conveyed power by a harmless reading. Where Rules has caps, the reading has them too (`caps_there`), and the other way round
-- (`caps_back`); with caps of both, each delegation conveys the same (`conveys_there`, `conveys_back`).
-- Idea: they are the same on the covered ones. An odd one, which is uncovered by Rules, has min(power, issuer's level) for its cap by the
-- reading, and conveys just that by Rules.
use Prim.Native.Nat.{ℕ, min, ◌≤◌}
use mathlib.Core.Logic.{inl, inr}
use mathlib.Core.Option.{Option}
use mathlib.Core.Path.{◌≡◌, refl}
use native.Mathlib.Omega.{arith}
use Rattle.rules.specs.Rules.{Shape, Graph, Greatest, Answer, absent, level, Capped, Covered, LiveCovered, LiveUncovered, Effective, Caps, Conveys, cap, plain, nothing}
use Rattle.rules.specs.Readings.{Reading, LiveCoveredBy, LiveBy, PreFixedBy, CapsBy, ConveysBy, cap_by, plain_by, nothing_by}
use Rattle.rules.proofs.Derivations.Answers.{AtLeast, answer_carry, greatest_carry, greatest_unique}
use Rattle.rules.proofs.Derivations.Monotone.{mono}
use Rattle.rules.proofs.Evaluation.LiveSet.{live_eligible, effective_exists}
use Rattle.rules.proofs.Evaluation.Caps.{capped_above, capped_below, cap_above}
use Rattle.rules.proofs.Readings.LiveSet.{joined}
use Rattle.rules.proofs.Readings.Live.{Harmless, plain_back, covered_back, live_back, covered_there, plain_there, live_there}
use Rattle.rules.proofs.Readings.Levels.{caps_pre_by, pre_there, odd_passes, lift, Part, part, caps_low, Between, caps_between, there, back, odd_there, odd_back}

-- A level that exists, cut down.
capped_level : {P : ℕ → Type 0} (p : ℕ) {m : ℕ} {o : Option ℕ} → AtLeast P m → Answer P o → (l : ℕ) × Greatest P l × (Capped p o ≡ min p l)
unfolding Capped
capped_level p s (absent a) = absurd (a _ s.holds)
capped_level p s (level {l} g) = (l, g, omega arith)

capped_power : {P : ℕ → Type 0} (p : ℕ) {o : Option ℕ} → Answer P o → Capped p o ≤ p
capped_power p = capped_below p (λ l s. omega arith)

module _ {W : Shape} {G : Graph W} {R : Reading W} (h : Harmless G R) where
  -- ## Conveyed
  module _ {κ κ' : W.Del → ℕ} (k : Caps G κ) (k' : CapsBy G R κ') where
    b : Between h κ κ'
    b = caps_between h k k'

    caps_same : {d : W.Del} → LiveCovered G d → LiveCoveredBy G R d → κ d ≡ κ' d
    caps_same {d} v w = omega (arith, b.low d v, b.high d (inr w))

    odd_conveys : {d : W.Del} → LiveUncovered G d → LiveCoveredBy G R d
        → (l : ℕ) × Greatest (Effective G κ (W.subject d) (W.issuer d)) l × (κ' d ≡ min (W.power d) l)
    odd_conveys {d} u v =
        let q = k'.equation d v in
        let g = capped_level (W.power d) (effective_exists κ (inl u))
        (answer_carry (odd_back h b u) (odd_there h b u) q.greatest) in
        (g.0, g.1, omega (arith, q.equation, g.2))

    pub conveys_there : {d : W.Del} {o : Option ℕ} → Conveys G κ d o → ConveysBy G R κ' d o
    conveys_there (nothing n) = nothing_by (λ v. n (live_back h _ v))
    conveys_there (cap v) = let w = covered_there h v in rw (caps_same v w) (cap_by w)
    conveys_there (plain l u g) = elim (plain_there h u) [
      | inl w ↦ plain_by l w (greatest_carry (there h b) (back h b) g)
      | inr v ↦ let q = odd_conveys u v in rw (greatest_unique g q.1, ← q.2) (cap_by v)
    ]

    pub conveys_back : {d : W.Del} {o : Option ℕ} → ConveysBy G R κ' d o → Conveys G κ d o
    conveys_back (nothing_by n) = nothing (λ v. n (live_there h _ v))
    conveys_back (plain_by l u g) = plain l (plain_back h u) (greatest_carry (back h b) (there h b) g)
    conveys_back (cap_by v) = elim (covered_back h v) [
      | inl u ↦ let q = odd_conveys u v in rw q.2 (plain q.0 u q.1)
      | inr w ↦ rw (← caps_same w v) (cap w)
    ]

  -- ## Caps by the reading give caps of Rules: the same on the covered ones, the power on all others
  module _ {κ' : W.Del → ℕ} (k' : CapsBy G R κ') where
    parts : (d : W.Del) → Part h (caps_pre_by k') d
    parts = part h (caps_pre_by k')

    part_between : Between h (λ d. (parts d).level) κ'
    part_between = record { rest = λ d. (parts d).rest; high = high; pre = caps_pre_by k'; low = λ d v. omega (arith, (parts d).covered v) }
      where
        high : (d : W.Del) → LiveBy G R d → κ' d ≤ (parts d).level
        high d (inl u) = omega (arith, k'.rest d u, (parts d).rest (plain_back h u))
        high d (inr v) = elim (covered_back h v) [
          | inl u ↦ let q = k'.equation d v in omega (arith, capped_power (W.power d) q.greatest, q.equation, (parts d).rest u)
          | inr w ↦ omega (arith, (parts d).covered w)
        ]

    pub caps_back : (κ : W.Del → ℕ) × Caps G κ
    caps_back = (
      _,
      record {
        rest = λ d. (parts d).rest;
        equation = λ d v. let q = k'.equation d (covered_there h v) in record {
          level = q.level;
          greatest = answer_carry (back h part_between) (there h part_between) q.greatest;
          equation = omega (arith, (parts d).covered v, q.equation);
        };
        least = λ κ'' p d v. omega (arith, k'.least κ'' (pre_there h p) d (covered_there h v), (parts d).covered v);
      },
    )

  -- ## Caps of Rules give caps by the reading: the same on the covered ones, what an odd one conveys, and the power on all others
  module _ {κ : W.Del → ℕ} (k : Caps G κ) (exists : (s x : W.Key) → (o : Option ℕ) × Answer (Effective G κ s x) o) where
    issuers : (d : W.Del) → (o : Option ℕ) × Answer (Effective G κ (W.subject d) (W.issuer d)) o
    issuers d = exists (W.subject d) (W.issuer d)

    record Whole (d : W.Del) : Type 0 where
      level : ℕ
      covered : Covered G d → level ≡ κ d
      odd : R.Counts d → ¬ Covered G d → level ≡ Capped (W.power d) (issuers d).0
      rest : ¬ R.Counts d → level ≡ W.power d

    whole : (d : W.Del) → Whole d
    whole d = elim (h.decide d) [
      | yes c ↦ record { level = κ d; covered = λ c. refl; odd = λ r n. absurd (n c); rest = λ m. absurd (m (h.counts c)) }
      | no n ↦ elim (h.told d) [
        | yes r ↦ record { level = Capped (W.power d) (issuers d).0; covered = λ c. absurd (n c); odd = λ r n. refl; rest = λ m. absurd (m r) }
        | no m ↦ record { level = W.power d; covered = λ c. absurd (n c); odd = λ r. absurd (m r); rest = λ m. refl }
      ]
    ]

    abbrev κ₁ : W.Del → ℕ
    κ₁ d = (whole d).level

    at_covered : {d : W.Del} → LiveCovered G d → κ₁ d ≡ κ d
    at_covered {d} w = (whole d).covered (live_eligible w).covered

    at_odd : {d : W.Del} → LiveUncovered G d → LiveCoveredBy G R d → κ₁ d ≡ Capped (W.power d) (issuers d).0
    at_odd {d} u v = (whole d).odd (h.counted (joined v)) u.uncovered.not

    whole_high : (d : W.Del) → LiveBy G R d → κ₁ d ≤ κ d
    whole_high d (inl u) = omega (arith, (whole d).rest u.uncovered.not, k.rest d (plain_back h u))
    whole_high d (inr v) = elim (covered_back h v) [
      | inl u ↦ omega (arith, at_odd u v, capped_power (W.power d) (issuers d).1, k.rest d u)
      | inr w ↦ omega (arith, at_covered w)
    ]

    whole_pre : PreFixedBy G R κ₁
    whole_pre = record {
      rest = λ d u. (whole d).rest u.uncovered.not;
      above = λ d v l s. elim (covered_back h v) [
        | inl u ↦ let i = mono {c' = κ} (live_back h) (λ n z. absurd z) whole_high s in
            omega (arith, at_odd u v, capped_above (W.power d) (issuers d).1 _ i.holds)
        | inr w ↦ let i = mono {c' = κ} (live_back h) (λ n x. x) whole_high s in
            omega (arith, at_covered w, cap_above (k.equation d w) _ i.holds)
      ];
    }

    whole_between : Between h κ κ₁
    whole_between = record { rest = k.rest; high = whole_high; pre = whole_pre; low = λ d w. omega (arith, at_covered w) }

    pub caps_there : (κ' : W.Del → ℕ) × CapsBy G R κ'
    caps_there = (
      κ₁,
      record {
        rest = whole_pre.rest;
        equation = λ d v. elim (covered_back h v) [
          | inl u ↦ record {
            level = (issuers d).0;
            greatest = answer_carry (odd_there h whole_between u) (odd_back h whole_between u) (issuers d).1;
            equation = at_odd u v;
          }
          | inr w ↦ let q = k.equation d w in record {
            level = q.level;
            greatest = answer_carry (there h whole_between) (back h whole_between) q.greatest;
            equation = omega (arith, at_covered w, q.equation);
          }
        ];
        least = λ κ'' p d v. elim (covered_back h v) [
          | inl u ↦ let c = capped_below (W.power d) {k = κ'' d} (λ l s.
              let i = lift h p (λ d w. caps_low h p k w) (λ d u. omega (arith, k.rest d u)) s in
              omega (arith, odd_passes h p u v i.holds)) (issuers d).1 in omega (arith, at_odd u v)
          | inr w ↦ omega (arith, at_covered w, caps_low h p k w)
        ];
      },
    )
