-- The closure of a subject: the marked places of the two tables, in ascending order of their digests, are the two lists that document 01
-- defines (`closure_is`); over a key that is not held both are empty.
use Prim.Native.Nat.{ℕ, ◌<◌}
use mathlib.Core.Path.{◌≡◌, refl, sym, ◌∙◌, ap, subst}
use mathlib.Core.Bool.{Bool, true, false}
use mathlib.Core.List.Memᴰ
use mathlib.Core.List.{List, [], ◌∷◌, map, Memᴰ}
use lib.ListN.{get_or}
use Rattle.rules.specs.Rules.{Ascending, done, Lists, Node, Closure, ClosureRev}
use Rattle.rules.proofs.Derivations.Monotone.{stands_alone}
use Rattle.rules.proofs.Stores.Places.{node_bytes}
use Rattle.keyset.specs.Word.{bit}
use Rattle.runs.specs.Bytes.{Bytes, Less, run_at}
use Rattle.runs.specs.Members.{has}
use Rattle.runs.specs.Table.{runs, order, GoodRuns}
use Rattle.runs.specs.Chosen.{picked, Marked}
use Rattle.runs.proofs.TableLaws.{found_at}
use Rattle.runs.proofs.ListLaws.{chosen_lists, picked_in, order_below}
use Rattle.keyline.specs.Limits.{delegation_limit, revocation_limit}
use Rattle.tables.specs.Committed.{Delegation, Revocation}
use Rattle.tables.specs.Columns.{revocation_at}
use Rattle.store.specs.Store.{committed, GoodStore}
use Rattle.store.specs.Parts.{holds}
use Rattle.store.specs.declared.Store.{Store}
use Rattle.coverage.specs.Places.{places}
use Rattle.coverage.specs.declared.Facts.{Facts}
use Rattle.answers.specs.Graph.{graph, store}
use Rattle.answers.specs.Facts.{FactsOf}
use Rattle.answers.specs.Answers.{ClosureIs}
use Rattle.answers.proofs.Places.{delegation_of, table, tabulate_in, tabulate_out, at_target, target_at}
use Rattle.answers.proofs.OverBytes.{not_subject}
use Rattle.answers.proofs.Members.{ascending_pairs}

-- ## Certificates at marked places
-- v x is the certificate at place x of a table t of n digests; the marks say which are P.
module _ (limit : ℕ) (t : Bytes) (n : ℕ) (good : GoodRuns limit t n) (on : List Bool) {A : Type 0} (v : ℕ → A) (digest : A → Bytes)
    (is : (x : ℕ) → digest (v x) ≡ run_at t x) (P : A → Type 0)
    (sound : (x : ℕ) → x < n → get_or on x false ≡ true → P (v x))
    (complete : (a : A) → P a → (x : ℕ) × (x < n) × (get_or on x false ≡ true) × (v x ≡ a)) where
  listed : Lists Less (Marked on t n) (map (run_at t) (picked on (order limit t n)))
  listed = chosen_lists limit t n good on

  place_chosen : (x : ℕ) → x < n → get_or on x false ≡ true → Memᴰ x (picked on (order limit t n))
  place_chosen x p o =
      let w = Memᴰ.of_map (run_at t) (picked on (order limit t n)) (listed.complete (run_at t x) (record { place = x; within = p; chosen = o; is = refl })) in
      let q = order_below limit t n good on (picked_in on (order limit t n) w.1).0 in
      let e : w.0 ≡ x = found_at limit t n good (run_at t x) w.0 q w.2 ∙ sym (found_at limit t n good (run_at t x) x p refl) in
      subst (λ y. Memᴰ y (picked on (order limit t n))) e w.1

  pub certificates : Lists (λ a b. Less (digest a) (digest b)) P (map v (picked on (order limit t n)))
  certificates = record {
    ascending = ascending_pairs v digest (picked on (order limit t n)) (digests_of (picked on (order limit t n)) listed.ascending);
    sound = λ a m.
        let w = Memᴰ.of_map v (picked on (order limit t n)) m in
        let p = picked_in on (order limit t n) w.1 in
        subst P w.2 (sound w.0 (order_below limit t n good on p.0) p.1);
    complete = λ a p. let q = complete a p in subst (λ y. Memᴰ y (map v (picked on (order limit t n)))) q.3 (Memᴰ.map v (place_chosen q.0 q.1 q.2));
  }
    where
      digests_of : (l : List ℕ) → Ascending Less (map (run_at t) l) → Ascending Less (map (λ x. digest (v x)) l)
      digests_of l = subst (Ascending Less) (same l)
        where
          same : (l : List ℕ) → map (run_at t) l ≡ map (λ x. digest (v x)) l
          same [] = refl
          same (x ∷ l) = let h = sym (is x) in let k = same l in cc

-- ## The closure
module _ (s : Store) (g : GoodStore s) where
  -- of a key that is not held
  pub no_closure : (k : Bytes) → has (runs s.keys.table s.keys.count) k ≡ false → ClosureIs (committed s) k [] []
  no_closure k n = record {
    delegations = record { ascending = done; sound = λ d m. absurd (Memᴰ.not-nil m); complete = λ d c. absurd (none_there d c) };
    revocations = record { ascending = done; sound = λ v m. absurd (Memᴰ.not-nil m); complete = λ v c. absurd (none_there c.del c.closure) };
  }
    where
      none_there : (d : Delegation) → ¬ Closure (graph (committed s)) k d
      none_there d c = not_subject s g k n d c.held (stands_alone (not_subject s g k n) c.node.stands)

  module _ (e : Facts) (f : FactsOf s e) (i : ℕ) (h : i < s.keys.count) (nodes : ℕ)
      (word-has : (x : ℕ) → Node (places e) i x → bit nodes x ≡ 1) (word-only : (x : ℕ) → bit nodes x ≡ 1 → Node (places e) i x)
      (dels : List Bool) (dels_yes : (d : ℕ) → d < s.delegations.count → get_or dels d false ≡ true → bit nodes (get_or s.delegations.subject d 0) ≡ 1)
      (dels_no : (d : ℕ) → d < s.delegations.count → bit nodes (get_or s.delegations.subject d 0) ≡ 1 → get_or dels d false ≡ true)
      (revs : List Bool)
      (revs_yes : (j : ℕ) → j < s.revocations.count → get_or revs j false ≡ true → (get_or e.target j 0 < s.delegations.count) × (get_or dels (get_or e.target j 0) false ≡ true))
      (revs_no : (j : ℕ) → j < s.revocations.count → get_or e.target j 0 < s.delegations.count → get_or dels (get_or e.target j 0) false ≡ true → get_or revs j false ≡ true) where
    abbrev pub revocation_of : ℕ → Revocation
    revocation_of v = revocation_at s.keys.table s.revocations v

    in_closure : (d : ℕ) → d < s.delegations.count → get_or dels d false ≡ true → Closure (graph (committed s)) (run_at s.keys.table i) (delegation_of s g e f d)
    unfolding holds
    in_closure d p o = record {
      held = tabulate_in (delegation_of s g e f) s.delegations.count d p;
      node = (node_bytes (table s g e f) h (g.delegations.subject.held d p)).0 (word-only (get_or s.delegations.subject d 0) (dels_yes d p o));
    }

    closure_in : (a : Delegation) → Closure (graph (committed s)) (run_at s.keys.table i) a
        → (d : ℕ) × (d < s.delegations.count) × (get_or dels d false ≡ true) × (delegation_of s g e f d ≡ a)
    unfolding holds
    closure_in a c =
        let t = tabulate_out (delegation_of s g e f) s.delegations.count c.held in
        let n = subst (λ y. Node (graph (committed s)) (run_at s.keys.table i) y.subject) (sym t.is) c.node in
        (t.at, t.within, dels_no t.at t.within (word-has (get_or s.delegations.subject t.at 0) ((node_bytes (table s g e f) h (g.delegations.subject.held t.at t.within)).1 n)), t.is)

    rev_in : (j : ℕ) → j < s.revocations.count → get_or revs j false ≡ true → ClosureRev (store (committed s)) (run_at s.keys.table i) (revocation_of j)
    unfolding holds
    rev_in j p o =
        let q = revs_yes j p o in
        let d = get_or e.target j 0 in
        record {
          del = delegation_of s g e f d;
          closure = in_closure d q.0 q.1;
          of = record { held = tabulate_in revocation_of s.revocations.count j p; names = at_target s g e f j p q.0 };
        }

    in_rev : (v : Revocation) → ClosureRev (store (committed s)) (run_at s.keys.table i) v
        → (j : ℕ) × (j < s.revocations.count) × (get_or revs j false ≡ true) × (revocation_of j ≡ v)
    unfolding holds
    in_rev v c =
        let t = tabulate_out revocation_of s.revocations.count c.of.held in
        let d = closure_in c.del c.closure in
        let n = target_at s g e f t.at t.within d.0 d.1 (ap (λ x. x.revoked) t.is ∙ (c.of.names ∙ ap (λ x. x.digest) (sym d.3))) in
        (t.at, t.within, revs_no t.at t.within (rw n d.1) (rw n d.2), t.is)

    pub closure_is : ClosureIs (committed s) (run_at s.keys.table i)
        (map (delegation_of s g e f) (picked dels (order delegation_limit s.delegations.digests s.delegations.count)))
        (map revocation_of (picked revs (order revocation_limit s.revocations.digests s.revocations.count)))
    closure_is = record {
      delegations = certificates delegation_limit s.delegations.digests s.delegations.count g.delegations.digests dels (delegation_of s g e f) (λ d. d.digest) (λ x. refl)
          (Closure (graph (committed s)) (run_at s.keys.table i)) in_closure closure_in;
      revocations = certificates revocation_limit s.revocations.digests s.revocations.count g.revocations.digests revs revocation_of (λ v. v.digest) (λ x. refl)
          (ClosureRev (store (committed s)) (run_at s.keys.table i)) rev_in in_rev;
    }
