-- Contexts: one revocation more. Assumes nothing.
use Prim.Native.Nat.{ℕ, ◌+◌, ◌≤◌, ◌<◌}
use mathlib.Core.Path.{◌≡◌, refl, sym, ap, ◌∙◌, subst}
use mathlib.Core.List.{List}
use mathlib.Core.Logic.{◌⊎◌, ⊎_elim}
use native.Mathlib.Decide.{ℕ_discrete, dec_lt}
use native.Mathlib.Omega.{arith}
use lib.ListN.{get_or, set, length, length-set, replicate}
use lib.Seq.{get_or-set_same, get_or-set_other}
use Rattle.keyset.specs.Word.{bit}
use Rattle.keyset.proofs.Laws.{bit_none}
use Rattle.places.specs.Limits.{revocation_limit}
use Rattle.places.proofs.Repeated.{repeated}
use Rattle.coverage.specs.Contexts.{Sought, Grouped, Agreeing}

pub record Grouping (target excluded : List ℕ) (j n count : ℕ) (exclude members : List ℕ) : Type 0 where
  pub grouped : Grouped target excluded j n count exclude members
  pub exclude_len : length exclude ≡ revocation_limit
  pub members_len : length members ≡ revocation_limit
  pub rest : (c : ℕ) → count ≤ c → get_or members c 0 ≡ 0

pub grouping_none : (target excluded : List ℕ) (n : ℕ) → Grouping target excluded 0 n 0 (replicate revocation_limit 0) (replicate revocation_limit 0)
grouping_none target excluded n = record {
  grouped = record {
    count_le = omega arith;
    member = λ c j h. absurd (omega arith);
    all = λ j h. absurd (omega arith);
    distinct = λ b c h. absurd (omega arith);
  };
  exclude_len = refl;
  members_len = refl;
  rest = λ c h. repeated {A = ℕ} revocation_limit c 0;
}

module _ (target excluded : List ℕ) (j n count : ℕ) (exclude members : List ℕ) (G : Grouping target excluded j n count exclude members) where
  -- j names no covered delegation
  pub grouping_skip : (get_or target j 0 < n → 0 < get_or excluded (get_or target j 0) 0 → ⊥) → Grouping target excluded (j + 1) n count exclude members
  grouping_skip no-net = record {
    grouped = record {
      count_le = let h = G.grouped.count_le in omega arith;
      member = λ c k h b. let p = G.grouped.member c k h b in (omega (arith, p.0), p.1, p.2, p.3);
      all = λ k h p q. all' k h p q (ℕ_discrete k j);
      distinct = G.grouped.distinct;
    };
    exclude_len = G.exclude_len;
    members_len = G.members_len;
    rest = G.rest;
  }
    where
      all' : (k : ℕ) → k < j + 1 → get_or target k 0 < n → 0 < get_or excluded (get_or target k 0) 0 → Dec (k ≡ j) → (c : ℕ) × (c < count) × (bit (get_or members c 0) k ≡ 1)
      all' k h p q (yes e) =
          absurd (no-net (subst (λ (z : ℕ). get_or target z 0 < n) e p) (subst (λ (z : ℕ). 0 < get_or excluded (get_or target z 0) 0) e q))
      all' k h p q (no m) = G.grouped.all k (omega (arith, m)) p q

  -- j joins the context c, which may be new
  module _ (c w joined count' : ℕ) (S : Sought exclude count w c) (held : get_or target j 0 < n) (net : get_or excluded (get_or target j 0) 0 ≡ w) (some : 0 < w)
      (jl : j < revocation_limit) (has_j : bit joined j ≡ 1) (others : (k : ℕ) → (k ≡ j → ⊥) → bit joined k ≡ bit (get_or members c 0) k)
      (c_lt : c < count') (count-up : count ≤ count') (count-one : (i : ℕ) → i < count' → (i < count) ⊎ (i ≡ c)) (count_le : count' ≤ j + 1) where
    abbrev exclude' : List ℕ
    exclude' = set exclude c w

    abbrev members' : List ℕ
    members' = set members c joined

    c_place : c < revocation_limit
    c_place = let h = S.le in let k = G.grouped.count_le in omega arith

    at_exclude : get_or exclude' c 0 ≡ w
    at_exclude = get_or-set_same exclude c w 0 (let h = c_place in let l = G.exclude_len in omega arith)

    at_members : get_or members' c 0 ≡ joined
    at_members = get_or-set_same members c joined 0 (let h = c_place in let l = G.members_len in omega arith)

    exclude_other : (i : ℕ) → (i ≡ c → ⊥) → get_or exclude' i 0 ≡ get_or exclude i 0
    exclude_other i m = get_or-set_other exclude c i w 0 m

    members_other : (i : ℕ) → (i ≡ c → ⊥) → get_or members' i 0 ≡ get_or members i 0
    members_other i m = get_or-set_other members c i joined 0 m

    -- an old member of c: then c is no new one
    old_member : (k : ℕ) → bit (get_or members c 0) k ≡ 1 → c < count
    old_member k b = go (dec_lt c count)
      where
        go : Dec (c < count) → c < count
        go (yes h) = h
        go (no h) = absurd (let z = ap (λ (y : ℕ). bit y k) (G.rest c (let y : count ≤ c = omega (arith, h) in y)) ∙ bit_none k in omega arith)

    member_c : (k : ℕ) → bit joined k ≡ 1 → Dec (k ≡ j)
        → (k < j + 1) × (get_or target k 0 < n) × (0 < get_or excluded (get_or target k 0) 0) × (get_or excluded (get_or target k 0) 0 ≡ w)
    member_c k b (yes e) =
        let p = ap (λ (z : ℕ). get_or target z 0) e in
        let q = ap (λ (z : ℕ). get_or excluded z 0) p in
        (omega arith, omega arith, omega arith, q ∙ net)
    member_c k b (no m) =
        let o = sym (others k m) ∙ b in
        let h = old_member k o in
        let p = G.grouped.member c k h o in
        (omega (arith, p.0), p.1, p.2, p.3 ∙ S.found h)

    member' : (i k : ℕ) → i < count' → bit (get_or members' i 0) k ≡ 1 → Dec (i ≡ c)
        → (k < j + 1) × (get_or target k 0 < n) × (0 < get_or excluded (get_or target k 0) 0) × (get_or excluded (get_or target k 0) 0 ≡ get_or exclude' i 0)
    member' i k h b (yes e) =
        let p = member_c k (ap (λ (y : ℕ). bit y k) (sym (ap (λ (y : ℕ). get_or members' y 0) e ∙ at_members)) ∙ b) (ℕ_discrete k j) in
        (p.0, p.1, p.2, p.3 ∙ sym (ap (λ (y : ℕ). get_or exclude' y 0) e ∙ at_exclude))
    member' i k h b (no m) =
        let p = G.grouped.member i k (⊎_elim (λ y. y) (λ y. absurd (m y)) (count-one i h)) (ap (λ (y : ℕ). bit y k) (sym (members_other i m)) ∙ b) in
        (omega (arith, p.0), p.1, p.2, p.3 ∙ sym (exclude_other i m))

    kept : (i k : ℕ) → bit (get_or members i 0) k ≡ 1 → Dec (i ≡ c) → Dec (k ≡ j) → bit (get_or members' i 0) k ≡ 1
    kept i k b (yes e) (yes f) = ap (λ (y : ℕ). bit (get_or members' y 0) k) e ∙ ap (λ (y : ℕ). bit y k) at_members ∙ ap (bit joined) f ∙ has_j
    kept i k b (yes e) (no m) =
        ap (λ (y : ℕ). bit (get_or members' y 0) k) e ∙ ap (λ (y : ℕ). bit y k) at_members ∙ others k m ∙ ap (λ (y : ℕ). bit (get_or members y 0) k) (sym e) ∙ b
    kept i k b (no m) f = ap (λ (y : ℕ). bit y k) (members_other i m) ∙ b

    all' : (k : ℕ) → k < j + 1 → get_or target k 0 < n → 0 < get_or excluded (get_or target k 0) 0 → Dec (k ≡ j) → (i : ℕ) × (i < count') × (bit (get_or members' i 0) k ≡ 1)
    all' k h p q (yes e) = (c, c_lt, ap (λ (y : ℕ). bit y k) at_members ∙ ap (bit joined) e ∙ has_j)
    all' k h p q (no m) =
        let a = G.grouped.all k (omega (arith, m)) p q in
        (a.0, omega (arith, a.1), kept a.0 k a.2 (ℕ_discrete a.0 c) (no m))

    -- no other context excludes w
    single : (i : ℕ) → i < count → (i ≡ c → ⊥) → get_or exclude i 0 ≡ w → Dec (c < count) → ⊥
    single i h m e (yes p) = m (G.grouped.distinct i c h p (e ∙ sym (S.found p)))
    single i h m e (no p) = S.first i (let y = S.le in omega (arith, p)) e

    distinct' : (a b : ℕ) → a < count' → b < count' → get_or exclude' a 0 ≡ get_or exclude' b 0 → Dec (a ≡ c) → Dec (b ≡ c) → a ≡ b
    distinct' a b p q e (yes f) (yes g) = f ∙ sym g
    distinct' a b p q e (yes f) (no g) =
        absurd (single b (⊎_elim (λ y. y) (λ y. absurd (g y)) (count-one b q)) g
        (sym (exclude_other b g) ∙ sym e ∙ ap (λ (y : ℕ). get_or exclude' y 0) f ∙ at_exclude) (dec_lt c count))
    distinct' a b p q e (no f) (yes g) =
        absurd (single a (⊎_elim (λ y. y) (λ y. absurd (f y)) (count-one a p)) f
        (sym (exclude_other a f) ∙ e ∙ ap (λ (y : ℕ). get_or exclude' y 0) g ∙ at_exclude) (dec_lt c count))
    distinct' a b p q e (no f) (no g) =
        G.grouped.distinct a b (⊎_elim (λ y. y) (λ y. absurd (f y)) (count-one a p)) (⊎_elim (λ y. y) (λ y. absurd (g y)) (count-one b q))
        (sym (exclude_other a f) ∙ e ∙ exclude_other b g)

    pub grouping_more : Grouping target excluded (j + 1) n count' exclude' members'
    grouping_more = record {
      grouped = record {
        count_le = count_le;
        member = λ i k h b. member' i k h b (ℕ_discrete i c);
        all = λ k h p q. all' k h p q (ℕ_discrete k j);
        distinct = λ a b p q e. distinct' a b p q e (ℕ_discrete a c) (ℕ_discrete b c);
      };
      exclude_len = length-set exclude c w ∙ G.exclude_len;
      members_len = length-set members c joined ∙ G.members_len;
      rest = λ i h. members_other i (λ e. omega arith) ∙ G.rest i (omega arith);
    }

pub agreeing : {target excluded : List ℕ} {m n count : ℕ} {exclude members : List ℕ} → Grouped target excluded m n count exclude members → Agreeing count exclude members target
agreeing {excluded = excluded} G b c i j p q s t e = sym (G.member b i p s).3 ∙ ap (λ (y : ℕ). get_or excluded y 0) e ∙ (G.member c j q t).3
