-- What an evaluation answers. Assumes nothing.
use Prim.Native.Nat.{ℕ, zero, suc, pred, ◌+◌, ◌≤◌, ◌<◌, min}
use mathlib.Core.Path.{◌≡◌, refl, sym, ap, ◌∙◌, subst}
use mathlib.Core.List.{List}
use mathlib.Core.Logic.{inl, inr}
use mathlib.Core.Option.{Option, some}
use native.Mathlib.Omega.{arith}
use native.Mathlib.Decide.{ℕ_discrete}
use mathlib.Core.Bool.{true, false}
use lib.Dec.{eqb}
use lib.ListN.{get_or, length, take}
use Rattle.std.specs.List.{IsAnyAnswer}
use Rattle.std.proofs.lemmas.List.{get_or-take, length-take}
use Rattle.std.proofs.lemmas.Bool.{eqb-true, eqb-false}
use Rattle.keyset.specs.Word.{bit}
use Rattle.places.specs.Limits.{level_count}
use Rattle.rules.specs.Rules.{Admin, Node, StandingIs, is_revoked, is_unsupported, revoked, unsupported, Nobody, Positive, Effective, Answer, absent, LiveCovered, LiveUncovered, Live, PositiveIs, EffectiveIs, ConveyedIs, Conveys, cap, plain, nothing}
use Rattle.rules.proofs.Derivations.Monotone.{mono}
use Rattle.rules.proofs.Derivations.Answers.{answer_carry, greatest_of}
use Rattle.rules.proofs.Evaluation.LiveSet.{effective_exists}
use Rattle.rules.specs.Rows.{level_of}
use Rattle.rules.proofs.Derivations.Rows.{self_answer, no_subject}
use Rattle.search.specs.Sets.{Word}
use Rattle.search.specs.Levels.{height, word, Found}
use Rattle.search.proofs.Laws.Answer.{found_only, found_has}
use Rattle.coverage.specs.Arrays.{Filled}
use Rattle.coverage.specs.Places.{places, Fit, Grades, Over}
use Rattle.coverage.specs.Coverage.{NamedBelow}
use Rattle.caps.specs.Caps.{level_at, Capped}
use Rattle.evaluation.specs.Result.{Evaluated}
use Rattle.coverage.specs.declared.Facts.{Facts}
use Rattle.evaluation.specs.declared.Evaluation.{Evaluation}
use Rattle.coverage.proofs.Laws.Flags.{no_bit}
use Rattle.coverage.proofs.Laws.Fill.{filled_held}
use Rattle.coverage.proofs.Laws.Seek.{found_as, answer_holds, answer_most}
use Rattle.caps.proofs.Laws.Caps.{pred_is}

-- ---- positive

module _ (e : Facts) (fit : Fit e) (all : List ℕ) (F : Filled e.delegations (λ d v. v ≡ get_or e.power d 0 + 1) all) where
  value_of : (d : ℕ) → 0 < get_or all d 0 → get_or all d 0 ≡ get_or e.power d 0 + 1
  value_of d p = F.here d (filled_held F d p)

  pub grades_all : Grades e all
  grades_all = record { len = F.len; le = λ d. le d (get_or all d 0) refl; held = filled_held F }
    where
      le : (d v : ℕ) → get_or all d 0 ≡ v → v ≤ level_count
      le d zero z = omega arith
      le d (suc v) z = let q = value_of d (omega arith) in omega (arith, fit.power_le d)

  pub found_positive : {subjects : ℕ} {found : List ℕ} → Found (Over e all 0) subjects found → Found (Positive (places e)) subjects found
  found_positive = found_as
      (λ r x l s. mono {E' = λ d. d < e.delegations} {N' = Nobody} {c' = λ d. get_or e.power d 0} (filled_held F) (λ n z. absurd z)
      (λ d p. let q = pred_is (get_or all d 0) (get_or e.power d 0) (value_of d p) in omega arith) s)
      (λ r x l s. mono {E' = λ d. 0 < get_or all d 0} {N' = λ n. bit 0 n ≡ 1} {c' = λ d. pred (get_or all d 0)}
      (λ d h. let q = F.here d h in omega arith) (λ n b. absurd (no_bit n b))
      (λ d h. let q = pred_is (get_or all d 0) (get_or e.power d 0) (F.here d h) in omega arith) s)

-- of a key that is no subject of a held delegation nothing is asked of the search: only the key itself stands over it
module _ {v : Evaluation} (K : Evaluated v) {s : ℕ} (z : bit v.subjects s ≡ 0) where
  no_subject_of : (d : ℕ) → d < v.facts.delegations → get_or v.facts.subject d 0 ≡ s → ⊥
  no_subject_of d h p = let b = K.subjects.has s (record { place = d; lt = h; is = p }) in omega arith

  pub alone_itself : {x : ℕ} → x ≡ s → PositiveIs (places v.facts) s x (level_of (suc Admin))
  unfolding level_of
  alone_itself {x} e = subst (λ (y : ℕ). PositiveIs (places v.facts) s y (level_of (suc Admin))) (sym e) (self_answer (λ y. y))

  pub alone_other : {x : ℕ} → (x ≡ s → ⊥) → PositiveIs (places v.facts) s x (level_of 0)
  unfolding level_of
  alone_other n = no_subject n no_subject_of

  pub node_itself : {w : ℕ} → bit w s ≡ 1 → ((x : ℕ) → (x ≡ s → ⊥) → bit w x ≡ 0) → Word w (Node (places v.facts) s)
  node_itself {w} b o = record { has = λ x n. has x n (ℕ_discrete x s); only = λ x m. only x m (ℕ_discrete x s) }
    where
      has : (x : ℕ) → Node (places v.facts) s x → Dec (x ≡ s) → bit w x ≡ 1
      has x n (yes e) = ap (λ (y : ℕ). bit w y) e ∙ b
      has x n (no f) = absurd (let m = answer_most 0 (alone_other f) n.level n.stands in omega arith)

      only : (x : ℕ) → bit w x ≡ 1 → Dec (x ≡ s) → Node (places v.facts) s x
      only x m (yes e) = record { level = Admin; stands = subst (λ (y : ℕ). Positive (places v.facts) s y Admin) (sym e) (answer_holds Admin (alone_itself refl)) }
      only x m (no f) = absurd (let q = o x f in omega arith)

pub nodes_found : {v : Evaluation} (K : Evaluated v) {s : ℕ} → bit v.subjects s ≡ 1 → {w : ℕ} → w ≡ word v.found s 0 → Word w (Node (places v.facts) s)
nodes_found {v} K {s} k {w} e = subst (λ (y : ℕ). Word y (Node (places v.facts) s)) (sym e) (record {
  has = λ x n. found_has K.found s x k 0 (record { level = n.level; more = omega arith; holds = n.stands });
  only = λ x b. let m = found_only K.found s x k 0 (omega arith) b in record { level = m.level; stands = m.holds };
})

-- whom a subject's lowest word does not have stands nowhere over it
pub unreached : {v : Evaluation} (K : Evaluated v) {s x : ℕ} → bit v.subjects s ≡ 1 → bit (word v.found s 0) x ≡ 0 → PositiveIs (places v.facts) s x (level_of 0)
unfolding level_of
unreached K {s} {x} k z = absent (λ l p. let b = found_has K.found s x k 0 (record { level = l; more = omega arith; holds = p }) in omega arith)

-- ---- effective

module _ (e : Facts) (grades : List ℕ) (K : Capped e grades) where
  pub effective_is : (roots : ℕ) (found : List ℕ) (s x v : ℕ) → Found (Over e grades 0) roots found → bit roots s ≡ 1 → v ≡ height found s x → EffectiveIs (places e) s x (level_of v)
  effective_is roots found s x v M k is = record {
    κ = level_at grades;
    caps = K.caps;
    answer = subst (λ (y : ℕ). Answer (Effective (places e) (level_at grades) s x) (level_of y)) (sym is)
        (answer_carry
        (λ l p. mono K.lives.yes (λ n z. absurd z) (λ d q. omega arith) p)
        (λ l p. mono K.lives.no (λ n b. absurd (no_bit n b)) (λ d q. omega arith) p)
        (M.answer s x k));
  }

  -- ---- conveyed

  pub conveyed_none : (d : ℕ) → get_or grades d 0 ≡ 0 → ConveyedIs (places e) d (level_of 0)
  unfolding level_of
  conveyed_none d z = record { κ = level_at grades; caps = K.caps; conveys = nothing (λ v. let p = K.lives.no d v in omega arith) }

  level_pos : (g : ℕ) → 0 < g → level_of g ≡ some (pred g)
  unfolding level_of
  level_pos zero h = absurd (omega arith)
  level_pos (suc g) h = refl

  covered_live : {d : ℕ} → ¬ (LiveUncovered (places e) d) → Live (places e) d → LiveCovered (places e) d
  covered_live n (inl u) = absurd (n u)
  covered_live n (inr v) = v

  plain_live : {d : ℕ} → ¬ (LiveCovered (places e) d) → Live (places e) d → LiveUncovered (places e) d
  plain_live n (inl u) = u
  plain_live n (inr v) = absurd (n v)

  min_suc : (p l : ℕ) → min (p + 1) (suc l) ≡ suc (min p l)
  min_suc p l = omega arith

  level_min : (g p l : ℕ) → g ≡ p + 1 → level_of (min g (suc l)) ≡ some (min p l)
  unfolding level_of
  level_min g p l h = ap (λ (z : ℕ). level_of (min z (suc l))) h ∙ ap level_of (min_suc p l)

  module _ (d : ℕ) (pos : 0 < get_or grades d 0) where
    pub conveyed_cap : ¬ (LiveUncovered (places e) d) → ConveyedIs (places e) d (level_of (get_or grades d 0))
    conveyed_cap n = record {
      κ = level_at grades;
      caps = K.caps;
      conveys = subst (λ (o : Option ℕ). Conveys (places e) (level_at grades) d o) (sym (level_pos (get_or grades d 0) pos)) (cap (covered_live n (K.lives.yes d pos)));
    }

    pub conveyed_plain : ¬ (LiveCovered (places e) d) → (v : ℕ) → EffectiveIs (places e) (get_or e.subject d 0) (get_or e.issuer d 0) (level_of v)
        → ConveyedIs (places e) d (level_of (min (get_or grades d 0) v))
    unfolding level_of
    conveyed_plain n zero q =
        let u = plain_live n (K.lives.yes d pos) in
        absurd (let a = effective_exists q.κ (inl u) in let m = answer_most 0 q.answer a.level a.holds in omega arith)
    conveyed_plain n (suc l) q =
        let u = plain_live n (K.lives.yes d pos) in
        record {
          κ = q.κ;
          caps = q.caps;
          conveys = subst (λ (o : Option ℕ). Conveys (places e) q.κ d o) (sym (level_min (get_or grades d 0) (get_or e.power d 0) l (K.lives.rest d u)))
              (plain l u (greatest_of q.answer));
        }

-- ---- standing

-- a search of the first m targets for d has told whether one of the first m revocations names it
module _ (target : List ℕ) (m d : ℕ) where
  pub named_found : IsAnyAnswer (λ y b. eqb y d ≡ b) (take m target) true → NamedBelow target m d
  named_found a =
      let lt : a.0 < m = omega (arith, a.1, length-take m target) in
      record { place = a.0; lt = lt; is = sym (get_or-take m target a.0 0 lt) ∙ eqb-true _ _ (a.2 0) }

  pub named_nowhere : m ≤ length target → IsAnyAnswer (λ y b. eqb y d ≡ b) (take m target) false → NamedBelow target m d → ⊥
  named_nowhere h a n =
      eqb-false _ _ (a n.place 0 (omega arith) (omega (arith, h, n.lt, length-take m target))) (get_or-take m target n.place 0 n.lt ∙ n.is)

module _ (e : Facts) (grades : List ℕ) (K : Capped e grades) (d : ℕ) (held : d < e.delegations) (zero-grade : get_or grades d 0 ≡ 0) where
  dead : Live (places e) d → ⊥
  dead v = let p = K.lives.no d v in omega arith

  pub standing_revoked : NamedBelow e.target e.revocations d → StandingIs (places e) d revoked
  standing_revoked n = is_revoked (get_or e.revoker n.place 0) held dead (record { place = n.place; lt = n.lt; is = (n.is, refl) })

  pub standing_unsupported : (NamedBelow e.target e.revocations d → ⊥) → StandingIs (places e) d unsupported
  standing_unsupported f = is_unsupported held dead (λ k r. f (record { place = r.place; lt = r.lt; is = r.is.0 }))
