-- The walk over levels of one pass (`widest`): its invariant, its start, the two kinds of turn, and its end. Assumes nothing.
-- The levels from above up are done. At the level below them the keys in settled have been expanded.
use Prim.Native.Nat.{ℕ, zero, suc, ◌+◌, ◌-◌, ◌≤◌, ◌<◌, min, max}
use mathlib.Core.Path.{◌≡◌, refl, sym, ap, ◌∙◌, subst}
use mathlib.Core.List.{List}
use mathlib.Core.Logic.{◌⊎◌, inl, inr, ⊎_elim}
use native.Mathlib.Decide.{ℕ_discrete, dec_lt}
use native.Mathlib.Omega.{arith}
use lib.ListN.{get_or, set, length, replicate}
use lib.Seq.{get_or-set_same, get_or-set_other}
use Rattle.keyset.specs.Word.{bit, size}
use Rattle.keyset.proofs.Laws.{bit_le, bit_two, bit_none, size_more}
use Rattle.places.specs.Limits.{key_limit, level_count}
use Rattle.rules.specs.Rules.{Admin}
use Rattle.rules.proofs.Derivations.Monotone.{stands_alone}
use Rattle.search.specs.Graph.{Graph, At}
use Rattle.search.specs.Index.{Ready}
use Rattle.search.specs.Levels.{On}
use Rattle.search.specs.Walk.{In, Grown, Leads, Led, Joins, Sound, Row}
use Rattle.search.proofs.Laws.Sets.{none_in, one_member}
use Rattle.search.proofs.Laws.Derive.{at_less, at_self, at_lead, at_member}

pub record Walk (G : Graph) (r : ℕ) (levels b : List ℕ) (active settled above : ℕ) : Type 0 where
  pub len : length b ≡ level_count
  pub above_le : above ≤ level_count
  pub sound : (l x : ℕ) → l < level_count → In b l x → At G r x l
  pub root : In b Admin r
  -- a word that is done is contained in the next lower one
  pub nested : (l x : ℕ) → above ≤ suc l → suc l < level_count → In b (suc l) x → In b l x
  pub done : (l u : ℕ) → above ≤ l → l < level_count → In b l u → bit active u ≡ 1 → bit settled u ≡ 1
  pub settled_in : (l u : ℕ) → above ≡ suc l → bit settled u ≡ 1 → In b l u
  -- what the settled keys' delegations give: at the levels done and at the present one, and what waits below
  pub edge : (l h u x : ℕ) → above ≤ suc l → l < level_count → l ≤ h → bit settled u ≡ 1 → In b l u → Leads G r u x h → In b l x
  pub lower : (h u x : ℕ) → suc h < above → bit settled u ≡ 1 → Leads G r u x h → In b h x
  -- what their members give
  pub member : (l u x : ℕ) → l < level_count → bit settled u ≡ 1 → (above ≤ l → In b l u) → On levels l u x → In b l x

-- ---- the start: r alone, at Admin

module _ (G : Graph) (r : ℕ) (levels : List ℕ) where
  only_root : (w m x : ℕ) → ((j : ℕ) → (j ≡ r → ⊥) → bit w j ≡ 0) → Dec (m ≡ Admin) → In (set (replicate level_count 0) Admin w) m x → x ≡ r
  only_root w m x o (yes e) p =
      one_member w r x o (ℕ_discrete x r)
      (ap (λ (z : ℕ). bit z x) (sym (get_or-set_same (replicate level_count 0) Admin w 0 (omega arith)))
      ∙ ap (λ (z : ℕ). bit (get_or (set (replicate level_count 0) Admin w) z 0) x) (sym e) ∙ p)
  only_root w m x o (no n) p = absurd (none_in level_count m x (ap (λ (z : ℕ). bit z x) (sym (get_or-set_other (replicate level_count 0) Admin m w 0 n)) ∙ p))

  nobody : (x : ℕ) → bit 0 x ≡ 1 → ⊥
  nobody x p = let e = bit_none x in omega arith

  pub walk_start : (w active : ℕ) → bit G.exclude r ≡ 0 → bit w r ≡ 1 → ((j : ℕ) → (j ≡ r → ⊥) → bit w j ≡ 0)
      → Walk G r levels (set (replicate level_count 0) Admin w) active 0 level_count
  walk_start w active f h o = record {
    len = refl;
    above_le = omega arith;
    sound = λ l x lt i. subst (λ (z : ℕ). At G r z l) (sym (only_root w l x o (ℕ_discrete l Admin) i)) (at_self G r l f lt);
    root = h;
    nested = λ l x p q. absurd (omega arith);
    done = λ l u p q. absurd (omega arith);
    settled_in = λ l u p q. absurd (nobody u q);
    edge = λ l k u x p q s z. absurd (nobody u z);
    lower = λ k u x p z. absurd (nobody u z);
    member = λ l u x p z. absurd (nobody u z);
  }

  -- a root that is excluded has nothing
  pub row_excluded : bit G.exclude r ≡ 1 → Row G r levels (replicate level_count 0)
  row_excluded f = record {
    len = refl;
    derived = λ l x h i. absurd (none_in level_count l x i);
    nested = λ l x h i. absurd (none_in level_count (suc l) x i);
    self = λ l p e. absurd (omega arith);
    edge = λ l h u x p q i. absurd (none_in level_count l u i);
    member = λ l u x p q i. absurd (none_in level_count l u i);
  }

module _ (G : Graph) (r : ℕ) (levels b : List ℕ) (active settled v : ℕ) (W : Walk G r levels b active settled (suc v)) where
  -- ---- what is left to expand at v

  pub pending : (w u : ℕ) → ((j : ℕ) → bit w j ≡ min (bit (get_or b v 0) j) (bit active j) - bit settled j) → bit w u ≡ 1
      → In b v u × (bit active u ≡ 1) × (bit settled u ≡ 0)
  pending w u is p =
      let q = is u in
      let k = bit_le (get_or b v 0) u in
      let a = bit_le active u in
      (omega arith, omega arith, omega arith)

  nothing_left : (w : ℕ) → ((j : ℕ) → bit w j ≡ min (bit (get_or b v 0) j) (bit active j) - bit settled j) → w ≡ 0 → (u : ℕ) → In b v u → bit active u ≡ 1 → bit settled u ≡ 1
  nothing_left w is z u i a =
      let q = is u in
      let s = bit_le settled u in
      let e = ap (λ (y : ℕ). bit y u) z ∙ bit_none u in omega arith

  -- ---- a level is done

  module _ (w : ℕ) (is : (j : ℕ) → bit w j ≡ min (bit (get_or b v 0) j) (bit active j) - bit settled j) (z : w ≡ 0) where
    done_more : (l u : ℕ) → v ≤ l → l < level_count → Dec (l ≡ v) → In b l u → bit active u ≡ 1 → bit settled u ≡ 1
    done_more l u p q (yes e) i a = nothing_left w is z u (ap (λ (y : ℕ). bit (get_or b y 0) u) (sym e) ∙ i) a
    done_more l u p q (no n) i a = W.done l u (omega (arith, n)) q i a

    -- the last one
    pub walk_bottom : v ≡ 0 → Walk G r levels b active settled v
    walk_bottom e = record {
      len = W.len;
      above_le = omega arith;
      sound = W.sound;
      root = W.root;
      nested = λ l x p q. W.nested l x (omega arith) q;
      done = λ l u p q i a. done_more l u p q (ℕ_discrete l v) i a;
      settled_in = λ l u p q. absurd (omega arith);
      edge = λ l h u x p q. W.edge l h u x (omega arith) q;
      lower = λ h u x p. absurd (omega arith);
      member = λ l u x p s f. W.member l u x p s (λ k. f (omega arith));
    }

    -- any other: its keys join the next lower word
    module _ (k : ℕ) (b' : List ℕ) (next : v ≡ suc k) (g : Grown b b' (λ m x. (m ≡ k) × In b v x)) where
      old : (l x : ℕ) → (l ≡ k → ⊥) → In b' l x → In b l x
      old l x n i = ⊎_elim (λ p. p) (λ p. absurd (n p.0)) (g.news l x i)

      into : (x : ℕ) → In b v x → In b' k x
      into x i = g.gains k x (refl, i)

      at_v : (u : ℕ) → bit settled u ≡ 1 → In b v u
      at_v u s = W.settled_in v u refl s

      nested' : (l x : ℕ) → v ≤ suc l → suc l < level_count → Dec (l ≡ k) → In b' (suc l) x → In b' l x
      nested' l x p q (yes e) i =
          subst (λ (y : ℕ). In b' y x) (sym e)
          (into x (subst (λ (y : ℕ). In b y x) (let y : suc l ≡ v = omega arith in y) (old (suc l) x (λ f. omega arith) i)))
      nested' l x p q (no n) i = g.keeps l x (W.nested l x (omega (arith, n)) q (old (suc l) x (λ f. omega arith) i))

      sound' : (l x : ℕ) → l < level_count → In b' l x → At G r x l
      sound' l x h i =
          ⊎_elim (λ p. W.sound l x h p)
          (λ p. subst (λ (y : ℕ). At G r x y) (sym p.0) (at_less G r x v k (omega arith) (W.sound v x (let y = W.above_le in omega arith) p.1))) (g.news l x i)

      edge_here : (h u x : ℕ) → k ≤ h → bit settled u ≡ 1 → Leads G r u x h → Dec (h ≡ k) → In b' k x
      edge_here h u x p s e (yes q) = subst (λ (y : ℕ). In b' y x) q (g.keeps h x (W.lower h u x (omega arith) s e))
      edge_here h u x p s e (no n) = into x (W.edge v h u x (omega arith) (let y = W.above_le in omega arith) (omega (arith, n)) s (at_v u s) e)

      edge' : (l h u x : ℕ) → v ≤ suc l → l < level_count → l ≤ h → bit settled u ≡ 1 → In b' l u → Leads G r u x h → Dec (l ≡ k) → In b' l x
      edge' l h u x p q s t i e (yes f) = subst (λ (y : ℕ). In b' y x) (sym f) (edge_here h u x (omega arith) t e (ℕ_discrete h k))
      edge' l h u x p q s t i e (no n) = g.keeps l x (W.edge l h u x (omega (arith, n)) q s t (old l u n i) e)

      pub walk_down : Walk G r levels b' active settled v
      walk_down = record {
        len = g.same ∙ W.len;
        above_le = let y = W.above_le in omega arith;
        sound = sound';
        root = g.keeps Admin r W.root;
        nested = λ l x p q i. nested' l x p q (ℕ_discrete l k) i;
        done = λ l u p q i a. done_more l u p q (ℕ_discrete l v) (old l u (λ f. omega arith) i) a;
        settled_in = λ l u p s. subst (λ (y : ℕ). In b' y u) (let y : k ≡ l = omega arith in y) (into u (at_v u s));
        edge = λ l h u x p q s t i e. edge' l h u x p q s t i e (ℕ_discrete l k);
        lower = λ h u x p s e. g.keeps h x (W.lower h u x (omega arith) s e);
        member = λ l u x p s f o. g.keeps l x (W.member l u x p s (λ q. old l u (λ y. omega arith) (f (omega arith))) o);
      }

  -- ---- a key u is expanded at v

  module _ (u settled' : ℕ) (b₁ b₂ : List ℕ) (lt : u < key_limit) (at-u : In b v u) (is-active : bit active u ≡ 1) (new : bit settled u ≡ 0)
      (now-in : bit settled' u ≡ 1) (others : (j : ℕ) → (j ≡ u → ⊥) → bit settled' j ≡ bit settled j) (S : Sound G levels)
      (g₁ : Grown b b₁ (Led G r u v 0)) (g₂ : Grown b₁ b₂ (Joins levels u (v + 1))) where
    keep : (m x : ℕ) → In b m x → In b₂ m x
    keep m x i = g₂.keeps m x (g₁.keeps m x i)

    -- above v nothing is new
    unrisen : (l x : ℕ) → v < l → In b₂ l x → In b l x
    unrisen l x h i =
        ⊎_elim (λ p. ⊎_elim (λ q. q) (λ q. absurd (omega (arith, q.is_m))) (g₁.news l x p)) (λ p. absurd (omega (arith, p.below))) (g₂.news l x i)

    was : (x : ℕ) → (x ≡ u → ⊥) → bit settled' x ≡ 1 → bit settled x ≡ 1
    was x n p = sym (others x n) ∙ p

    -- nor does u stand there
    not_above : (l : ℕ) → v < l → l < level_count → In b₂ l u → ⊥
    not_above l h q i = let s = W.done l u (omega arith) q (unrisen l u h i) is-active in omega arith

    at_level : (l : ℕ) → l ≤ v → At G r u l
    at_level l h = at_less G r u v l h (W.sound v u (let y = W.above_le in omega arith) at-u)

    sound_lead : (m x : ℕ) → Led G r u v 0 m x → At G r x m
    sound_lead m x s = at_lead G r u x s.level m s.leads (omega (arith, s.is_m)) (at_level m (omega (arith, s.is_m)))

    sound_member : (m x : ℕ) → m < level_count → Joins levels u (v + 1) m x → At G r x m
    sound_member m x h s = at_member G r u x m (at_level m (omega (arith, s.below))) (S.derived m u x h lt s.has)

    sound_settle : (m x : ℕ) → m < level_count → In b₂ m x → At G r x m
    sound_settle m x h i =
        ⊎_elim (λ j. ⊎_elim (λ k. W.sound m x h k) (λ s. sound_lead m x s) (g₁.news m x j)) (λ s. sound_member m x h s) (g₂.news m x i)

    settled_up : (x : ℕ) → Dec (x ≡ u) → bit settled x ≡ 1 → bit settled' x ≡ 1
    settled_up x (yes e) p = ap (bit settled') e ∙ now-in
    settled_up x (no n) p = others x n ∙ p

    settled_in' : (l x : ℕ) → suc v ≡ suc l → Dec (x ≡ u) → bit settled' x ≡ 1 → In b₂ l x
    settled_in' l x p (yes e) s =
        subst (λ (y : ℕ). In b₂ y x) (let y : v ≡ l = omega arith in y) (subst (λ (y : ℕ). In b₂ v y) (sym e) (keep v u at-u))
    settled_in' l x p (no n) s = keep l x (W.settled_in l x p (was x n s))

    stood : (l y : ℕ) → suc v ≤ suc l → (y ≡ u → ⊥) → bit settled' y ≡ 1 → In b₂ l y → Dec (l ≡ v) → In b l y
    stood l y p n s i (yes e) = W.settled_in l y (omega arith) (was y n s)
    stood l y p n s i (no k) = unrisen l y (omega (arith, k)) i

    lead_at : (l h x : ℕ) → l ≡ min v h → Leads G r u x h → In b₂ l x
    lead_at l h x e k = g₂.keeps l x (g₁.gains l x (record { level = h; leads = k; from = omega arith; is_m = e }))

    edge_new : (l h x : ℕ) → suc v ≤ suc l → l < level_count → l ≤ h → In b₂ l u → Leads G r u x h → Dec (l ≡ v) → In b₂ l x
    edge_new l h x p q s i e (yes f) = lead_at l h x (omega arith) e
    edge_new l h x p q s i e (no n) = absurd (not_above l (omega (arith, n)) q i)

    edge_settle : (l h y x : ℕ) → suc v ≤ suc l → l < level_count → l ≤ h → Dec (y ≡ u) → bit settled' y ≡ 1 → In b₂ l y → Leads G r y x h → In b₂ l x
    edge_settle l h y x p q s (yes e) t i k =
        edge_new l h x p q s (subst (λ (z : ℕ). In b₂ l z) e i) (subst (λ (z : ℕ). Leads G r z x h) e k) (ℕ_discrete l v)
    edge_settle l h y x p q s (no n) t i k = keep l x (W.edge l h y x p q s (was y n t) (stood l y p n t i (ℕ_discrete l v)) k)

    lower' : (h y x : ℕ) → suc h < suc v → Dec (y ≡ u) → bit settled' y ≡ 1 → Leads G r y x h → In b₂ h x
    lower' h y x p (yes e) s k = lead_at h h x (omega arith) (subst (λ (z : ℕ). Leads G r z x h) e k)
    lower' h y x p (no n) s k = keep h x (W.lower h y x p (was y n s) k)

    member_new : (l x : ℕ) → l < level_count → (suc v ≤ l → In b₂ l u) → On levels l u x → Dec (v < l) → In b₂ l x
    member_new l x p f o (yes h) = absurd (not_above l h p (f (omega arith)))
    member_new l x p f o (no n) = g₂.gains l x (record { below = omega (arith, n); has = o })

    member' : (l y x : ℕ) → l < level_count → Dec (y ≡ u) → bit settled' y ≡ 1 → (suc v ≤ l → In b₂ l y) → On levels l y x → In b₂ l x
    member' l y x p (yes e) s f o =
        member_new l x p (λ h. subst (λ (z : ℕ). In b₂ l z) e (f h)) (subst (λ (z : ℕ). On levels l z x) e o) (dec_lt v l)
    member' l y x p (no n) s f o = keep l x (W.member l y x p (was y n s) (λ h. unrisen l y (omega arith) (f h)) o)

    pub walk_settle : Walk G r levels b₂ active settled' (suc v)
    walk_settle = record {
      len = g₂.same ∙ g₁.same ∙ W.len;
      above_le = W.above_le;
      sound = sound_settle;
      root = keep Admin r W.root;
      nested = λ l x p q i. keep l x (W.nested l x p q (unrisen (suc l) x (omega arith) i));
      done = λ l y p q i a. settled_up y (ℕ_discrete y u) (W.done l y p q (unrisen l y (omega arith) i) a);
      settled_in = λ l x p s. settled_in' l x p (ℕ_discrete x u) s;
      edge = λ l h y x p q s t i k. edge_settle l h y x p q s (ℕ_discrete y u) t i k;
      lower = λ h y x p s k. lower' h y x p (ℕ_discrete y u) s k;
      member = λ l y x p s f o. member' l y x p (ℕ_discrete y u) s f o;
    }

    pub settles_more : size key_limit settled < size key_limit settled'
    settles_more = size_more key_limit settled settled' u (λ j l. up j (ℕ_discrete j u)) lt (omega arith)
      where
        up : (j : ℕ) → Dec (j ≡ u) → bit settled j ≤ bit settled' j
        up j (yes e) = let q = ap (bit settled) e in let s = ap (bit settled') e in omega arith
        up j (no n) = omega (arith, others j n)

-- ---- the end

-- over a key that is no subject only the key itself stands
pub alone : (G : Graph) {issuers last earlier : List ℕ} {count subjects : ℕ} → Ready G count issuers last earlier subjects → (r x l : ℕ) → bit subjects r ≡ 0
    → At G r x l → x ≡ r
alone G {subjects = subjects} R r x l z a =
    stands_alone (λ d e p. let q = ap (bit subjects) (sym p) ∙ R.covers d e in let y : ◌≡◌ {A = ℕ} 0 1 = sym z ∙ q in omega arith) a.holds

module _ (G : Graph) (r : ℕ) (levels b : List ℕ) (active settled : ℕ) (W : Walk G r levels b active settled 0) (count : ℕ) (issuers last earlier : List ℕ) (subjects : ℕ)
    (R : Ready G count issuers last earlier subjects) (S : Sound G levels) (is : (j : ℕ) → bit active j ≡ max (bit (get_or issuers r 0) j) (bit subjects j)) where
  issues : (u x h : ℕ) → Leads G r u x h → bit active u ≡ 1
  issues u x h e =
      let d = R.held e.del (subst (λ (z : ℕ). 0 < z) (sym e.is_grade) (omega arith)) in
      let i = R.indexed.issues e.del d in
      let a = ap (λ (z : ℕ). bit (get_or issuers z 0) (get_or G.issuer e.del 0)) e.about_root in
      let c = ap (bit (get_or issuers r 0)) e.is_issuer in
      omega (arith, is u, bit_le subjects u)

  member_any : (l u x : ℕ) → l < level_count → u < key_limit → In b l u → On levels l u x → (bit subjects u ≡ 0) ⊎ (bit subjects u ≡ 1) → In b l x
  member_any l u x p q i o (inl z) = subst (λ (y : ℕ). In b l y) (sym (alone G R u x l z (S.derived l u x p q o))) i
  member_any l u x p q i o (inr z) =
      W.member l u x p (W.done l u (omega arith) p i (omega (arith, is u, bit_le (get_or issuers r 0) u))) (λ h. i) o

  self_at : (l : ℕ) → l < level_count → (n : ℕ) → l + n ≡ Admin → In b l r
  self_at l p n e = go n l e
    where
      go : (n l : ℕ) → l + n ≡ Admin → In b l r
      go zero l e = subst (λ (y : ℕ). In b y r) (let y : Admin ≡ l = omega arith in y) W.root
      go (suc n) l e = W.nested l r (omega arith) (omega arith) (go n (suc l) (omega arith))

  pub walk_end : Row G r levels b
  walk_end = record {
    len = W.len;
    derived = W.sound;
    nested = λ l x h i. W.nested l x (omega arith) h i;
    self = λ l h f. self_at l h (Admin - l) (omega arith);
    edge = λ l h u x p q i e. W.edge l h u x (omega arith) p q (W.done l u (omega arith) p i (issues u x h e)) i e;
    member = λ l u x p q i o. member_any l u x p q i o (bit_two subjects u);
  }
