-- The chain of a pair's delegations: how the index grows by one delegation, and the walk along it. Assumes nothing.
use Prim.Native.Nat.{ℕ, zero, suc, pred, ◌+◌, ◌*◌, ◌≤◌, ◌<◌, min}
use mathlib.Core.Path.{◌≡◌, refl, sym, ap, ◌∙◌, subst}
use mathlib.Core.List.{List}
use mathlib.Core.Logic.{◌⊎◌, inl, inr}
use native.Mathlib.Decide.{ℕ_discrete, dec_lt}
use native.Mathlib.Omega.{arith}
use lib.ListN.{get_or, set, length, length-set, replicate}
use lib.Seq.{get_or-set_same, get_or-set_other}
use Rattle.keyset.specs.Word.{bit}
use Rattle.places.specs.Limits.{key_limit, delegation_limit, level_count}
use Rattle.search.specs.Graph.{Graph}
use Rattle.search.specs.Index.{Last, Indexed, Ready}
use Rattle.search.specs.Walk.{Grown, Relaxed, Led}
use Rattle.places.proofs.Repeated.{repeated}
use Rattle.search.proofs.Laws.Grow.{grown_none, grown_then}

-- ---- the index

pub record Indexing (issuer subject : List ℕ) (n : ℕ) (issuers last earlier : List ℕ) : Type 0 where
  pub indexed : Indexed issuer subject n issuers last earlier
  pub issuers_len : length issuers ≡ key_limit
  pub last_len : length last ≡ key_limit * key_limit
  pub earlier_len : length earlier ≡ delegation_limit

pub indexing_none : (issuer subject : List ℕ) → Indexing issuer subject 0 (replicate key_limit 0) (replicate (key_limit * key_limit) 0) (replicate delegation_limit 0)
indexing_none issuer subject = record {
  indexed = record {
    issues = λ d h. absurd (omega arith);
    start = λ r u p q. record { found = λ d e. absurd (let z = repeated {A = ℕ} (key_limit * key_limit) (r * key_limit + u) 0 in omega arith); most = λ d h. absurd (omega arith) };
    before = λ d h. absurd (omega arith);
  };
  issuers_len = refl;
  last_len = refl;
  earlier_len = refl;
}

pair_left : (a b c d : ℕ) → b < key_limit → d < key_limit → a * key_limit + b ≡ c * key_limit + d → a ≡ c
pair_left a b c d p q e = omega arith

pair_right : (a b c d : ℕ) → b < key_limit → d < key_limit → a * key_limit + b ≡ c * key_limit + d → b ≡ d
pair_right a b c d p q e = omega arith

pair_lt : (a b : ℕ) → a < key_limit → b < key_limit → a * key_limit + b < key_limit * key_limit
pair_lt a b p q = omega arith

module _ (issuer subject : List ℕ) (d : ℕ) (issuers last earlier : List ℕ) (I : Indexing issuer subject d issuers last earlier)
    (r u w : ℕ) (r-is : get_or subject d 0 ≡ r) (u-is : get_or issuer d 0 ≡ u) (rl : r < key_limit) (ul : u < key_limit) (dl : d < delegation_limit)
    (joined : bit w u ≡ 1) (kept : (j : ℕ) → (j ≡ u → ⊥) → bit w j ≡ bit (get_or issuers r 0) j) where
  abbrev issuers' : List ℕ
  issuers' = set issuers r w

  abbrev last' : List ℕ
  last' = set last (r * key_limit + u) (d + 1)

  abbrev earlier' : List ℕ
  earlier' = set earlier d (get_or last (r * key_limit + u) 0)

  has_kept : (j : ℕ) → Dec (j ≡ u) → bit (get_or issuers r 0) j ≡ 1 → bit w j ≡ 1
  has_kept j (yes e) p = ap (bit w) e ∙ joined
  has_kept j (no n) p = kept j n ∙ p

  still : (s j : ℕ) → Dec (s ≡ r) → bit (get_or issuers s 0) j ≡ 1 → bit (get_or issuers' s 0) j ≡ 1
  still s j (yes e) p =
      ap (λ (z : ℕ). bit (get_or issuers' z 0) j) e ∙ ap (λ (z : ℕ). bit z j) (get_or-set_same issuers r w 0 (let q = I.issuers_len in omega arith))
      ∙ has_kept j (ℕ_discrete j u) (ap (λ (z : ℕ). bit (get_or issuers z 0) j) (sym e) ∙ p)
  still s j (no n) p = ap (λ (z : ℕ). bit z j) (get_or-set_other issuers r s w 0 n) ∙ p

  issues' : (e : ℕ) → e < d + 1 → Dec (e ≡ d) → bit (get_or issuers' (get_or subject e 0) 0) (get_or issuer e 0) ≡ 1
  issues' e h (yes q) =
      ap (λ (z : ℕ). bit (get_or issuers' z 0) (get_or issuer e 0)) (ap (λ (z : ℕ). get_or subject z 0) q ∙ r-is)
      ∙ ap (λ (z : ℕ). bit z (get_or issuer e 0)) (get_or-set_same issuers r w 0 (let z = I.issuers_len in omega arith))
      ∙ ap (bit w) (ap (λ (z : ℕ). get_or issuer z 0) q ∙ u-is) ∙ joined
  issues' e h (no n) = still (get_or subject e 0) (get_or issuer e 0) (ℕ_discrete (get_or subject e 0) r) (I.indexed.issues e (omega (arith, n)))

  at_pair : get_or last' (r * key_limit + u) 0 ≡ d + 1
  at_pair = get_or-set_same last (r * key_limit + u) (d + 1) 0 (let q = I.last_len in let z = pair_lt r u rl ul in omega arith)

  here : Last issuer subject (d + 1) r u (d + 1)
  here = record {
    found = λ e q. let z : e ≡ d = omega arith in (omega arith, ap (λ (y : ℕ). get_or subject y 0) z ∙ r-is, ap (λ (y : ℕ). get_or issuer y 0) z ∙ u-is);
    most = λ e h p q. h;
  }

  elsewhere : (s v at : ℕ) → ((r ≡ s) → (u ≡ v) → ⊥) → Last issuer subject d s v at → Last issuer subject (d + 1) s v at
  elsewhere s v at n L = record {
    found = λ e q. let f = L.found e q in (omega (arith, f.0), f.1, f.2);
    most = λ e h p q. go e h p q (ℕ_discrete e d);
  }
    where
      go : (e : ℕ) → e < d + 1 → get_or subject e 0 ≡ s → get_or issuer e 0 ≡ v → Dec (e ≡ d) → e < at
      go e h p q (yes z) = absurd (n (sym r-is ∙ ap (λ (y : ℕ). get_or subject y 0) (sym z) ∙ p) (sym u-is ∙ ap (λ (y : ℕ). get_or issuer y 0) (sym z) ∙ q))
      go e h p q (no k) = L.most e (omega (arith, k)) p q

  start' : (s v : ℕ) → s < key_limit → v < key_limit → Dec (s * key_limit + v ≡ r * key_limit + u) → Last issuer subject (d + 1) s v (get_or last' (s * key_limit + v) 0)
  start' s v sl vl (yes e) =
      let p = pair_left s v r u vl ul e in
      let q = pair_right s v r u vl ul e in
      subst (λ (z : ℕ). Last issuer subject (d + 1) s v z) (sym (ap (λ (z : ℕ). get_or last' z 0) e ∙ at_pair))
      (subst (λ (z : ℕ). Last issuer subject (d + 1) z v (d + 1)) (sym p) (subst (λ (z : ℕ). Last issuer subject (d + 1) r z (d + 1)) (sym q) here))
  start' s v sl vl (no n) =
      subst (λ (z : ℕ). Last issuer subject (d + 1) s v z) (sym (get_or-set_other last (r * key_limit + u) (s * key_limit + v) (d + 1) 0 n))
      (elsewhere s v _ (λ p q. n (ap (λ (z : ℕ). z * key_limit + v) (sym p) ∙ ap (λ (z : ℕ). r * key_limit + z) (sym q))) (I.indexed.start s v sl vl))

  before' : (e : ℕ) → e < d + 1 → Dec (e ≡ d) → Last issuer subject e (get_or subject e 0) (get_or issuer e 0) (get_or earlier' e 0)
  before' e h (yes q) =
      subst (λ (z : ℕ). Last issuer subject z (get_or subject z 0) (get_or issuer z 0) (get_or earlier' z 0)) (sym q)
      (subst (λ (z : ℕ). Last issuer subject d (get_or subject d 0) (get_or issuer d 0) z)
      (sym (get_or-set_same earlier d (get_or last (r * key_limit + u) 0) 0 (let z = I.earlier_len in omega arith)))
      (subst (λ (z : ℕ). Last issuer subject d z (get_or issuer d 0) (get_or last (r * key_limit + u) 0)) (sym r-is)
      (subst (λ (z : ℕ). Last issuer subject d r z (get_or last (r * key_limit + u) 0)) (sym u-is) (I.indexed.start r u rl ul))))
  before' e h (no n) =
      subst (λ (z : ℕ). Last issuer subject e (get_or subject e 0) (get_or issuer e 0) z) (sym (get_or-set_other earlier d e (get_or last (r * key_limit + u) 0) 0 n))
      (I.indexed.before e (omega (arith, n)))

  pub indexing_more : Indexing issuer subject (d + 1) issuers' last' earlier'
  indexing_more = record {
    indexed = record {
      issues = λ e h. issues' e h (ℕ_discrete e d);
      start = λ s v sl vl. start' s v sl vl (ℕ_discrete (s * key_limit + v) (r * key_limit + u));
      before = λ e h. before' e h (ℕ_discrete e d);
    };
    issuers_len = length-set issuers r w ∙ I.issuers_len;
    last_len = length-set last (r * key_limit + u) (d + 1) ∙ I.last_len;
    earlier_len = length-set earlier d (get_or last (r * key_limit + u) 0) ∙ I.earlier_len;
  }

-- ---- the walk

pub last_le : {issuer subject : List ℕ} {n r u : ℕ} (next : ℕ) → Last issuer subject n r u next → next ≤ n
last_le zero L = omega arith
last_le (suc d) L = omega (arith, (L.found d refl).0)

-- Where the walk along u's delegations about r stands: those from next on are relaxed, and next is one more than one of them, or 0.
pub record Chaining (G : Graph) (r u v count : ℕ) (issuers last earlier : List ℕ) (subjects : ℕ) (b₀ b : List ℕ) (next : ℕ) : Type 0 where
  pub ready : Ready G count issuers last earlier subjects
  pub len : length b ≡ level_count
  pub grown : Grown b₀ b (Led G r u v next)
  pub pair : (d : ℕ) → next ≡ suc d → (d < count) × (get_or G.subject d 0 ≡ r) × (get_or G.issuer d 0 ≡ u)

module _ (G : Graph) (r u v : ℕ) {count : ℕ} {issuers last earlier : List ℕ} {subjects : ℕ} where
  pub chaining_start : (b : List ℕ) (next : ℕ) → Ready G count issuers last earlier subjects → length b ≡ level_count
      → Last G.issuer G.subject count r u next → Chaining G r u v count issuers last earlier subjects b b next
  chaining_start b next R len L = record {
    ready = R;
    len = len;
    grown = grown_none b (Led G r u v next) (λ m x t.
        let k = t.leads in
        let q = L.most k.del (R.held k.del (subst (λ (z : ℕ). 0 < z) (sym k.is_grade) (omega arith))) k.about_root k.is_issuer in
        omega (arith, t.from));
    pair = L.found;
  }

  module _ (b₀ b : List ℕ) (next d : ℕ) (C : Chaining G r u v count issuers last earlier subjects b₀ b next) (is : next ≡ suc d) where
    pub chaining_place : d < delegation_limit
    chaining_place = omega (arith, (C.pair d is).0, C.ready.count_le)

    module _ (b' : List ℕ) (next' : ℕ) (is' : next' ≡ get_or earlier d 0)
        (h : Grown b b' (Relaxed v (get_or G.grades d 0) (get_or G.audience d 0) G.exclude)) where
      prior : Last G.issuer G.subject d r u next'
      prior =
          let p = C.pair d is in
          subst (λ (z : ℕ). Last G.issuer G.subject d r u z) (sym is')
          (subst (λ (z : ℕ). Last G.issuer G.subject d r z (get_or earlier d 0)) p.2
          (subst (λ (z : ℕ). Last G.issuer G.subject d z (get_or G.issuer d 0) (get_or earlier d 0)) p.1 (C.ready.indexed.before d p.0)))

      one : (m x : ℕ) → Relaxed v (get_or G.grades d 0) (get_or G.audience d 0) G.exclude m x → Led G r u v next' m x
      one m x t =
          let p = C.pair d is in
          record {
            level = pred (get_or G.grades d 0);
            leads = record {
              del = d;
              about_root = p.1;
              is_issuer = p.2;
              is_audience = sym t.is_x;
              is_grade = omega (arith, t.usable);
              free = ap (bit G.exclude) t.is_x ∙ t.free;
            };
            from = last_le next' prior;
            is_m = t.is_m;
          }

      relaxed : (m x : ℕ) (t : Led G r u v next' m x) → t.leads.del ≡ d → Relaxed v (get_or G.grades d 0) (get_or G.audience d 0) G.exclude m x
      relaxed m x t e =
          let k = t.leads in
          let z : get_or G.grades d 0 ≡ suc t.level = ap (λ (y : ℕ). get_or G.grades y 0) (sym e) ∙ k.is_grade in
          let y : x ≡ get_or G.audience d 0 = sym k.is_audience ∙ ap (λ (y : ℕ). get_or G.audience y 0) e in
          record {
            usable = omega arith;
            free = ap (bit G.exclude) (sym y) ∙ k.free;
            is_m = t.is_m ∙ ap (min v) (let q : t.level ≡ pred (get_or G.grades d 0) = omega arith in q);
            is_x = y;
          }

      split : (m x : ℕ) (t : Led G r u v next' m x) → Dec (t.leads.del ≡ d) → Dec (d < t.leads.del)
          → Led G r u v next m x ⊎ Relaxed v (get_or G.grades d 0) (get_or G.audience d 0) G.exclude m x
      split m x t (yes e) q = inr (relaxed m x t e)
      split m x t (no n) (yes q) = inl (record { level = t.level; leads = t.leads; from = omega arith; is_m = t.is_m })
      split m x t (no n) (no q) =
          let k = t.leads in absurd (let z = prior.most k.del (omega (arith, n, q)) k.about_root k.is_issuer in omega (arith, t.from))

      pub chaining_more : Chaining G r u v count issuers last earlier subjects b₀ b' next'
      chaining_more =
          let p = C.pair d is in
          let le = last_le next' prior in
          record {
            ready = C.ready;
            len = h.same ∙ C.len;
            grown = grown_then (Led G r u v next') C.grown h
                (λ m x t. record { level = t.level; leads = t.leads; from = omega (arith, t.from); is_m = t.is_m })
                one (λ m x t. split m x t (ℕ_discrete t.leads.del d) (dec_lt d t.leads.del));
            pair = λ e q. let f = prior.found e q in (omega (arith, f.0, p.0), f.1, f.2);
          }

      pub chaining_less : next' < next
      chaining_less = let le = last_le next' prior in omega arith
