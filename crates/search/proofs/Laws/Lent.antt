-- What is lent to a search is ready, whichever keys are left out; and what is ready for some number of delegations is ready for the number that its
-- index tells. So the type of what is lent asks for no number.
use Prim.Native.Nat.{ℕ, zero, suc, max, ◌+◌, ◌*◌, ◌/◌, ◌%◌, ◌≤◌, ◌<◌}
use mathlib.Core.Path.{◌≡◌, refl, subst}
use mathlib.Core.List.{List}
use native.Mathlib.Decide.{dec_lt}
use native.Mathlib.Omega.{arith}
use lib.ListN.{get_or}
use Rattle.places.specs.Limits.{key_limit}
use Rattle.search.specs.Graph.{Graph}
use Rattle.search.specs.Index.{greatest_below, indexed_count, Ready}
use Rattle.search.specs.Delegations.{graph_of}
use Rattle.search.specs.declared.delegations.Delegations.{Delegations}
use Rattle.search.proofs.Laws.Chain.{last_le}

pub ready_of : (d : Delegations) (exclude : ℕ) → Ready (graph_of d exclude) (indexed_count d.edges.now.last) d.edges.now.issuers d.edges.now.last d.edges.now.earlier d.subjects
ready_of d exclude = record {
  placed = record { issuer_lt = d.ready.placed.issuer_lt; audience_lt = d.ready.placed.audience_lt; grade_le = d.ready.placed.grade_le };
  count_le = d.ready.count_le;
  indexed = d.ready.indexed;
  held = d.ready.held;
  covers = d.ready.covers;
}

greatest_most : (n : ℕ) (xs : List ℕ) (i : ℕ) → i < n → get_or xs i 0 ≤ greatest_below n xs
unfolding greatest_below
greatest_most zero xs i h = absurd (omega arith)
greatest_most (suc n) xs i h = go (λ l. greatest_most n xs i l) (dec_lt i n)
  where
    go : (i < n → get_or xs i 0 ≤ greatest_below n xs) → Dec (i < n) → get_or xs i 0 ≤ max (greatest_below n xs) (get_or xs n 0)
    go rec (yes l) = let e = rec l in omega arith
    go rec (no l) = let s : n ≡ i = omega (arith, l) in subst (λ (z : ℕ). get_or xs z 0 ≤ max (greatest_below n xs) (get_or xs n 0)) s (omega arith)

greatest_least : (n : ℕ) (xs : List ℕ) (m : ℕ) → ((i : ℕ) → i < n → get_or xs i 0 ≤ m) → greatest_below n xs ≤ m
unfolding greatest_below
greatest_least zero xs m h = omega arith
greatest_least (suc n) xs m h = let e = greatest_least n xs m (λ i l. h i (omega arith)) in let f = h n (omega arith) in omega arith

module _ {G : Graph} {n : ℕ} {issuers last earlier : List ℕ} {subjects : ℕ} (R : Ready G n issuers last earlier subjects)
    (about : (d : ℕ) → 0 < get_or G.grades d 0 → get_or G.subject d 0 < key_limit) where
  at_pair : (r u : ℕ) → r < key_limit → u < key_limit → get_or last (r * key_limit + u) 0 ≤ indexed_count last
  at_pair r u p q = greatest_most (key_limit * key_limit) last (r * key_limit + u) (omega arith)

  whole : (i : ℕ) → i / key_limit * key_limit + i % key_limit ≡ i
  whole i = omega arith

  count_le : indexed_count last ≤ n
  count_le = greatest_least (key_limit * key_limit) last n (λ i h. subst (λ (z : ℕ). get_or last z 0 ≤ n) (whole i)
      (last_le _ (R.indexed.start (i / key_limit) (i % key_limit) (omega arith) (omega arith))))

  pub ready_indexed : Ready G (indexed_count last) issuers last earlier subjects
  ready_indexed = record {
    placed = R.placed;
    count_le = omega (arith, count_le, R.count_le);
    indexed = record {
      issues = λ d h. R.indexed.issues d (omega (arith, count_le));
      start = λ r u p q. let L = R.indexed.start r u p q in record {
        found = λ d e. let f = L.found d e in (omega (arith, at_pair r u p q), f.1, f.2);
        most = λ d h. L.most d (omega (arith, count_le));
      };
      before = λ d h. R.indexed.before d (omega (arith, count_le));
    };
    held = λ d p.
        let r = get_or G.subject d 0 in
        let u = get_or G.issuer d 0 in
        let m = (R.indexed.start r u (about d p) (R.placed.issuer_lt d)).most d (R.held d p) refl refl in
        omega (arith, at_pair r u (about d p) (R.placed.issuer_lt d));
    covers = R.covers;
  }
