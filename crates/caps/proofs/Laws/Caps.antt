-- Caps: what stays between rounds, and that at the end they are the caps of the rules. Assumes nothing.
use Prim.Native.Nat.{ℕ, zero, suc, pred, ◌+◌, ◌≤◌, ◌<◌, min, max}
use mathlib.Core.Path.{◌≡◌, refl, sym, ◌∙◌, subst}
use mathlib.Core.List.{List}
use mathlib.Core.Logic.{◌⊎◌, inl, inr, ⊎_elim}
use mathlib.Core.Option.{Option}
use native.Mathlib.Omega.{arith}
use native.Mathlib.Decide.{ℕ_discrete, dec_lt}
use lib.ListN.{get_or}
use Rattle.keyset.specs.Word.{bit}
use Rattle.rules.specs.Rules.{Answer, LiveCovered, LiveUncovered, Live, Avoiding, PreFixed}
use Rattle.rules.proofs.Derivations.Answers.{Under, answer_carry}
use Rattle.rules.proofs.Derivations.Monotone.{mono}
use Rattle.rules.proofs.Evaluation.Caps as least
use Rattle.rules.proofs.Evaluation.LiveSet.{live_held}
use Rattle.rules.proofs.Evaluation.Caps.{below_raise, least_prefix_caps}
use Rattle.rules.specs.Rows.{level_of}
use Rattle.search.specs.Sets.{Word}
use Rattle.search.specs.Graph.{Graph, Holds}
use Rattle.search.specs.Levels.{height, Found}
use Rattle.coverage.specs.Arrays.{Below}
use Rattle.coverage.specs.Places.{places, Fit, Grades, Over}
use Rattle.coverage.specs.Coverage.{Nets}
use Rattle.coverage.specs.Contexts.{Through, Put, Grouped, Agreeing}
use Rattle.coverage.specs.Lives.{Lives}
use Rattle.caps.specs.Caps.{Alive, excluding, Raised, Lifted, level_at, Capped}
use Rattle.coverage.specs.declared.Facts.{Facts}
use Rattle.coverage.proofs.Laws.Put.{put_map}
use Rattle.coverage.proofs.Laws.Seek.{seen, rooted, answer_over, answer_holds, answer_most}
use Rattle.coverage.proofs.Laws.Net.{covered_named, net_covered, net_word, live_net}

-- ---- one context: a search from the subjects of what the members name

module _ (G : Graph) (members from known : ℕ) (target found : List ℕ) (R : Word from (Through members (λ j. get_or G.subject (get_or target j 0) 0)))
    (F : Found (Holds G) known found) (more : (j : ℕ) → bit from j ≤ bit known j) where
  -- the byte that was found is the issuer's level
  pub raised_members : {power old new : List ℕ}
      → Put members target (λ d v. v ≡ max (get_or G.grades d 0) (min (get_or power d 0 + 1) (height found (get_or G.subject d 0) (get_or G.issuer d 0)))) old new
      → Put members target (Raised G power) old new
  raised_members = put_map (λ j m v e. record { value = _; is = F.answer _ _ (rooted G members from known target R more j m); equation = e })

-- ---- one round: contexts after contexts

pub lifted_none : (G : Graph) (power target : List ℕ) (living : ℕ) (exclude members : List ℕ) → Lifted G power target living 0 exclude members G.grades
lifted_none G power target living exclude members = record { same = refl; here = λ c j h. absurd (omega arith); there = λ d. inl refl }

module _ (G : Graph) (power target : List ℕ) (living c : ℕ) (exclude members next : List ℕ) (L : Lifted G power target living c exclude members next) where
  -- the context c has no living member
  pub lifted_skip : ((j : ℕ) → bit (get_or members c 0) j ≡ 1 → bit living j ≡ 1 → ⊥) → Lifted G power target living (c + 1) exclude members next
  lifted_skip n = record { same = L.same; here = λ b j h p q. here' b j h p q (ℕ_discrete b c); there = L.there }
    where
      here' : (b j : ℕ) → b < c + 1 → bit (get_or members b 0) j ≡ 1 → bit living j ≡ 1 → Dec (b ≡ c) → Raised (excluding G (get_or exclude b 0)) power (get_or target j 0) (get_or next (get_or target j 0) 0)
      here' b j h p q (yes e) = absurd (n j (subst (λ (y : ℕ). bit (get_or members y 0) j ≡ 1) e p) q)
      here' b j h p q (no m) = L.here b j (omega (arith, m)) p q

  pub lifted_more : {count : ℕ} (m : ℕ) → c < count → Agreeing count exclude members target → ((j : ℕ) → bit m j ≡ 1 → (bit (get_or members c 0) j ≡ 1) × (bit living j ≡ 1))
      → ((j : ℕ) → bit (get_or members c 0) j ≡ 1 → bit living j ≡ 1 → bit m j ≡ 1) → (new : List ℕ)
      → Put m target (Raised (excluding G (get_or exclude c 0)) power) next new → Lifted G power target living (c + 1) exclude members new
  lifted_more m lt A only has new P = record {
    same = P.same ∙ L.same;
    here = λ b j h p q. here' b j h p q (ℕ_discrete b c);
    there = λ d. ⊎_elim (λ r. ⊎_elim (λ s. inl (r ∙ s)) (λ t. inr t) (L.there d)) (λ t. inr (record { place = t.place; member = (only t.place t.member).1; is = t.is })) (P.there d);
  }
    where
      -- a delegation that this context raised: its exclusion is the same
      again : (b j i : ℕ) → b < c → bit (get_or members b 0) j ≡ 1 → bit m i ≡ 1 → get_or target i 0 ≡ get_or target j 0
          → Raised (excluding G (get_or exclude b 0)) power (get_or target j 0) (get_or new (get_or target j 0) 0)
      again b j i h p q e =
          subst (λ (y : ℕ). Raised (excluding G y) power (get_or target j 0) (get_or new (get_or target j 0) 0)) (A c b i j lt (omega arith) (only i q).0 p e)
          (subst (λ (y : ℕ). Raised (excluding G (get_or exclude c 0)) power y (get_or new y 0)) e (P.here i q))

      here' : (b j : ℕ) → b < c + 1 → bit (get_or members b 0) j ≡ 1 → bit living j ≡ 1 → Dec (b ≡ c) → Raised (excluding G (get_or exclude b 0)) power (get_or target j 0) (get_or new (get_or target j 0) 0)
      here' b j h p q (yes e) =
          subst (λ (y : ℕ). Raised (excluding G (get_or exclude y 0)) power (get_or target j 0) (get_or new (get_or target j 0) 0)) (sym e)
          (P.here j (has j (subst (λ (y : ℕ). bit (get_or members y 0) j ≡ 1) e p) q))
      here' b j h p q (no n) =
          ⊎_elim (λ r. subst (λ (y : ℕ). Raised (excluding G (get_or exclude b 0)) power (get_or target j 0) y) (sym r) (L.here b j (omega (arith, n)) p q))
          (λ t. again b j t.place (omega (arith, n)) p t.member t.is) (P.there (get_or target j 0))

-- ---- numbers

pub grades_live : {e : Facts} {grades : List ℕ} → Fit e → Lives e grades → Grades e grades
grades_live {e} {grades} fit L = record { len = L.len; le = λ d. omega (arith, L.most d, fit.power_le d); held = λ d p. live_held (L.yes d p) }

pub pred_is : (g p : ℕ) → g ≡ p + 1 → pred g ≡ p
pred_is zero p h = absurd (omega arith)
pred_is (suc g) p h = omega arith

pred_le : (g k : ℕ) → g ≤ suc k → pred g ≤ k
pred_le zero k h = omega arith
pred_le (suc g) k h = omega arith

le_pred : (g k : ℕ) → pred g ≤ k → g ≤ suc k
le_pred zero k h = omega arith
le_pred (suc g) k h = omega arith

min_pred : (p l g : ℕ) → min (p + 1) (suc l) ≤ g → min p l ≤ pred g
min_pred p l zero h = absurd (omega arith)
min_pred p l (suc g) h = omega arith

-- ---- between rounds: no cap is above the least levels

pub record Rising (e : Facts) (grades : List ℕ) : Type 0 where
  pub lives : Lives e grades
  pub below : least.Below (places e) (level_at grades)

-- those that live are the same in every round
pub record Living (e : Facts) (excluded : List ℕ) (living : ℕ) : Type 0 where
  pub only : (j : ℕ) → bit living j ≡ 1 → (get_or e.target j 0 < e.delegations) × (0 < get_or excluded (get_or e.target j 0) 0) × Live (places e) (get_or e.target j 0)
  pub has : (j : ℕ) → j < e.revocations → 0 < get_or excluded (get_or e.target j 0) 0 → Live (places e) (get_or e.target j 0) → bit living j ≡ 1

pub living_is : {e : Facts} {excluded grades : List ℕ} {living : ℕ} → Lives e grades → Word living (Below e.revocations (Alive e.target e.delegations excluded grades)) → Living e excluded living
living_is {e} {excluded} {grades} L W = record {
  only = λ j b. let a = (W.only j b).is in (a.held, a.covered, L.yes _ a.live);
  has = λ j h p v. W.has j (record { lt = h; is = record { held = live_held v; covered = p; live = L.no _ v } });
}

module _ (e : Facts) (excluded : List ℕ) (fit : Fit e) (NN : Nets e excluded) (count : ℕ) (exclude members : List ℕ)
    (G : Grouped e.target excluded e.revocations e.delegations count exclude members) (living : ℕ) (Lv : Living e excluded living) (grades : List ℕ) (I : Rising e grades) where
  over_avoiding : (d : ℕ) → 0 < get_or excluded d 0 → Under (Over e grades (get_or excluded d 0) (get_or e.subject d 0) (get_or e.issuer d 0)) (Avoiding (places e) (level_at grades) d)
  over_avoiding d h l s = mono I.lives.yes (net_word e excluded NN d h).has (λ d p. omega arith) s

  avoiding_over : (d : ℕ) → 0 < get_or excluded d 0 → Under (Avoiding (places e) (level_at grades) d) (Over e grades (get_or excluded d 0) (get_or e.subject d 0) (get_or e.issuer d 0))
  avoiding_over d h l s = mono I.lives.no (net_word e excluded NN d h).only (λ d p. omega arith) s

  rest_level : (d : ℕ) → LiveUncovered (places e) d → level_at grades d ≡ get_or e.power d 0
  rest_level d u = pred_is _ _ (I.lives.rest d u)

  module _ (next : List ℕ) (R : Lifted (seen e grades 0) e.power e.target living count exclude members next) where
    -- each live covered delegation is raised with N(d) excluded ..
    raised : (d : ℕ) → LiveCovered (places e) d → Raised (seen e grades (get_or excluded d 0)) e.power d (get_or next d 0)
    raised d v =
        let h = live_net e excluded NN v in
        let n = covered_named e (net_covered e excluded NN d h) in
        let j = n.place in
        let p : 0 < get_or excluded (get_or e.target j 0) 0 = subst (λ (y : ℕ). 0 < get_or excluded y 0) (sym n.is) h in
        let b = Lv.has j n.lt p (subst (λ (y : ℕ). Live (places e) y) (sym n.is) (inr v)) in
        let a = G.all j n.lt (subst (λ (y : ℕ). y < e.delegations) (sym n.is) (live_held (inr v))) p in
        let r = R.here a.0 j a.1 a.2 b in
        let s = subst (λ (y : ℕ). Raised (seen e grades y) e.power (get_or e.target j 0) (get_or next (get_or e.target j 0) 0)) (sym (G.member a.0 j a.1 a.2).3) r in
        subst (λ (y : ℕ). Raised (seen e grades (get_or excluded y 0)) e.power y (get_or next y 0)) n.is s

    -- .. and no other
    moved : (d : ℕ) → (get_or next d 0 ≡ get_or grades d 0) ⊎ (LiveCovered (places e) d)
    moved d =
        ⊎_elim (λ p. inl p)
        (λ t. inr (let a = Lv.only t.place t.member in subst (λ (y : ℕ). LiveCovered (places e) y) t.is (covered_live _ a.1 a.2))) (R.there d)
      where
        covered_live : (c : ℕ) → 0 < get_or excluded c 0 → Live (places e) c → LiveCovered (places e) c
        covered_live c h (inl u) = absurd (u.uncovered.not (net_covered e excluded NN c h))
        covered_live c h (inr v) = v

    pub rises : (d : ℕ) → get_or grades d 0 ≤ get_or next d 0
    rises d = ⊎_elim (λ p. omega arith) (λ v. omega (arith, (raised d v).equation)) (moved d)

    below_more : (κ : ℕ → ℕ) → PreFixed (places e) κ → (d : ℕ) → LiveCovered (places e) d → (v : ℕ)
        → Answer (Over e grades (get_or excluded d 0) (get_or e.subject d 0) (get_or e.issuer d 0)) (level_of v) → min (get_or e.power d 0 + 1) v ≤ suc (κ d)
    below_more κ p d v zero is = omega arith
    below_more κ p d v (suc l) is =
        let a = over_avoiding d (live_net e excluded NN v) l (answer_holds l is) in
        let b = below_raise rest_level I.below p v a.holds in
        let c = a.more in omega arith

    next_below : least.Below (places e) (level_at next)
    next_below κ p d v =
        let r = raised d v in
        let b = le_pred (get_or grades d 0) (κ d) (I.below κ p d v) in
        pred_le (get_or next d 0) (κ d) (omega (arith, below_more κ p d v r.value (answer_over e grades _ r.is), r.equation))

    next_rest : (d : ℕ) → LiveUncovered (places e) d → get_or next d 0 ≡ get_or e.power d 0 + 1
    next_rest d u = ⊎_elim (λ p. p ∙ I.lives.rest d u) (λ v. absurd (u.uncovered.not (net_covered e excluded NN d (live_net e excluded NN v)))) (moved d)

    next_most : (d : ℕ) → get_or next d 0 ≤ get_or e.power d 0 + 1
    next_most d = let m = I.lives.most d in ⊎_elim (λ p. omega arith) (λ v. omega (arith, (raised d v).equation)) (moved d)

    pub rising_next : Rising e next
    rising_next = record {
      lives = record {
        len = R.same ∙ I.lives.len;
        yes = λ d p. ⊎_elim (λ q. I.lives.yes d (subst (λ (y : ℕ). 0 < y) q p)) (λ v. inr v) (moved d);
        no = λ d v. omega (arith, I.lives.no d v, rises d);
        rest = next_rest;
        most = next_most;
      };
      below = next_below;
    }

    -- ---- the end: nothing rose

    module _ (same : next ≡ grades) where
      settled : (d : ℕ) → LiveCovered (places e) d → Raised (seen e grades (get_or excluded d 0)) e.power d (get_or grades d 0)
      settled d v =
          subst (λ (y : List ℕ). Raised (seen e grades (get_or excluded d 0)) e.power d (get_or y d 0)) same (raised d v)

      pre : PreFixed (places e) (level_at grades)
      pre = record {
        rest = rest_level;
        above = λ d v l s.
            let a = avoiding_over d (live_net e excluded NN v) l s in
            let r = settled d v in
            let m = answer_most r.value (answer_over e grades _ r.is) a.level a.holds in
            let c = a.more in min_pred (get_or e.power d 0) l (get_or grades d 0) (omega (arith, r.equation));
      }

      decide : (d : ℕ) → Dec (LiveCovered (places e) d)
      decide d = go (dec_lt 0 (get_or excluded d 0)) (dec_lt 0 (get_or grades d 0))
        where
          live : 0 < get_or excluded d 0 → Live (places e) d → LiveCovered (places e) d
          live h (inl u) = absurd (u.uncovered.not (net_covered e excluded NN d h))
          live h (inr v) = v

          go : Dec (0 < get_or excluded d 0) → Dec (0 < get_or grades d 0) → Dec (LiveCovered (places e) d)
          go (yes h) (yes g) = yes (live h (I.lives.yes d g))
          go (no n) t = no (λ v. n (live_net e excluded NN v))
          go (yes h) (no n) = no (λ v. n (I.lives.no d (inr v)))

      exists : (d : ℕ) → LiveCovered (places e) d → (o : Option ℕ) × Answer (Avoiding (places e) (level_at grades) d) o
      exists d v =
          let h = live_net e excluded NN v in
          let r = settled d v in
          (level_of r.value, answer_carry (over_avoiding d h) (avoiding_over d h) (answer_over e grades _ r.is))

      pub capped : Capped e grades
      capped = record { lives = I.lives; caps = least_prefix_caps (level_at grades) pre I.below decide exists }
