-- What is evaluated at places is what the definitions say over bytes: the instance of `Table` (Rattle.rules, Stores/Places) that the tables
-- of a good store are.
use Prim.Native.Nat.{ℕ, zero, suc, ◌<◌}
use mathlib.Core.Path.{◌≡◌, refl, sym, ◌∙◌, ap}
use mathlib.Core.Logic.{inl, inr}
use mathlib.Core.List.Memᴰ
use mathlib.Core.List.{List, [], ◌∷◌, ◌++◌, Memᴰ}
use native.Mathlib.Decide.{dec_lt}
use native.Mathlib.Omega.{arith}
use lib.ListN.{length, get_or}
use Rattle.rules.specs.Rules.{RevokedBy}
use Rattle.rules.proofs.Stores.Places.{Table}
use Rattle.rules.proofs.Stores.Finite.{mem_decided}
use Rattle.keyline.specs.Limits.{key_limit, delegation_limit}
use Rattle.runs.specs.Bytes.{Bytes, run_at}
use Rattle.runs.specs.Members.{place}
use Rattle.runs.specs.Table.{tabulate, runs}
use Rattle.runs.proofs.MemberLaws.{get_or_place}
use Rattle.runs.proofs.TableLaws.{runs_long, runs_at, found_at}
use Rattle.tables.specs.Committed.{Delegation, Revocation}
use Rattle.tables.specs.Columns.{delegation_at, revocation_at}
use Rattle.store.specs.Store.{committed, GoodStore}
use Rattle.store.specs.Parts.{holds}
use Rattle.store.specs.declared.Store.{Store}
use Rattle.tables.proofs.ContentLaws.{rank_power}
use Rattle.coverage.specs.Places.{places, Names}
use Rattle.coverage.specs.declared.Facts.{Facts}
use Rattle.answers.specs.Graph.{graph, store}
use Rattle.answers.specs.Facts.{FactsOf}
use Rattle.answers.proofs.Equality.{same_delegation}

-- What is tabulated.
module _ {A : Type 0} (f : ℕ → A) where
  pub tabulate_in : (n : ℕ) (i : ℕ) → i < n → Memᴰ (f i) (tabulate f n)
  unfolding tabulate
  tabulate_in zero i h = absurd (omega arith)
  tabulate_in (suc n) i h = go (dec_lt i n) (λ k. tabulate_in n i k)
    where
      go : Dec (i < n) → (i < n → Memᴰ (f i) (tabulate f n)) → Memᴰ (f i) (tabulate f n ++ (f n ∷ []))
      go (yes k) rest = Memᴰ.append_left (f n ∷ []) (rest k)
      go (no k) rest = let e : i ≡ n = omega (arith, k) in Memᴰ.append_right (tabulate f n) (Memᴰ.head (ap f e))

  pub record Tabulated (n : ℕ) (a : A) : Type 0 where
    pub at : ℕ
    pub within : at < n
    pub is : f at ≡ a

  pub tabulate_out : (n : ℕ) {a : A} → Memᴰ a (tabulate f n) → Tabulated n a
  unfolding tabulate
  tabulate_out zero m = absurd (Memᴰ.not-nil m)
  tabulate_out (suc n) m = elim (Memᴰ.append_cases (tabulate f n) m) [
    | inl k ↦ let t = tabulate_out n k in let h = t.within in record { at = t.at; within = omega arith; is = t.is }
    | inr k ↦ record { at = n; within = omega arith; is = sym (Memᴰ.eq_of_singleton k) }
  ]

module _ (s : Store) (g : GoodStore s) (e : Facts) (f : FactsOf s e) where
  abbrev pub InUse : ℕ → Type 0
  InUse x = x < s.keys.count

  abbrev pub key_at : ℕ → Bytes
  key_at x = run_at s.keys.table x

  abbrev pub delegation_of : ℕ → Delegation
  delegation_of d = delegation_at s.keys.table s.delegations d

  abbrev revocation_of : ℕ → Revocation
  revocation_of v = revocation_at s.keys.table s.revocations v

  key_place_lem : (x : ℕ) → InUse x → x ≡ place (runs s.keys.table s.keys.count) (key_at x)
  key_place_lem x h = found_at key_limit s.keys.table s.keys.count g.keys (key_at x) x h refl

  abbrev Digests : List Bytes
  Digests = runs s.delegations.digests s.delegations.count

  digest_place : (d : ℕ) → d < s.delegations.count → d ≡ place Digests (run_at s.delegations.digests d)
  digest_place d h = found_at delegation_limit s.delegations.digests s.delegations.count g.delegations.digests (run_at s.delegations.digests d) d h refl

  -- a run that stands at place d is d's digest
  at_place : (x : Bytes) (d : ℕ) → place Digests x ≡ d → d < s.delegations.count → x ≡ run_at s.delegations.digests d
  at_place x d p h =
      let l = runs_long delegation_limit s.delegations.digests s.delegations.count g.delegations.digests in
      let k : place Digests x < length Digests = omega arith in
      sym (get_or_place Digests x [] k) ∙ (ap (λ i. get_or Digests i []) p ∙ runs_at delegation_limit s.delegations.digests s.delegations.count g.delegations.digests d h)

  -- a revocation's target is the delegation whose digest it names
  pub at_target : (j : ℕ) → j < s.revocations.count → get_or e.target j 0 < s.delegations.count
      → run_at s.revocations.revoked j ≡ run_at s.delegations.digests (get_or e.target j 0)
  at_target j w h = at_place (run_at s.revocations.revoked j) (get_or e.target j 0) (sym (f.target j w)) h

  pub target_at : (j : ℕ) → j < s.revocations.count → (d : ℕ) → d < s.delegations.count
      → run_at s.revocations.revoked j ≡ run_at s.delegations.digests d → get_or e.target j 0 ≡ d
  target_at j w d h p = f.target j w ∙ (ap (λ x. place Digests x) p ∙ sym (digest_place d h))

  pub table : Table (places e) (graph (committed s)) InUse key_at delegation_of
  unfolding holds
  table = record {
    apart = λ {x} {y} p q h. key_place_lem x p ∙ (ap (λ k. place (runs s.keys.table s.keys.count) k) h ∙ sym (key_place_lem y q));
    distinct = λ {d = c} {e = d} p q h.
        digest_place c (rw f.delegations at p) ∙ (ap (λ x. place Digests x.digest) h ∙ sym (digest_place d (rw f.delegations at q)));
    issuer = λ {d} h. (rw f.issuer (g.delegations.issuer.held d (rw f.delegations at h)), ap (λ c. key_at (get_or c d 0)) f.issuer);
    audience = λ {d} h. (rw f.audience (g.delegations.audience.held d (rw f.delegations at h)), ap (λ c. key_at (get_or c d 0)) f.audience);
    subject = λ {d} h. (rw f.subject (g.delegations.subject.held d (rw f.delegations at h)), ap (λ c. key_at (get_or c d 0)) f.subject);
    power = λ {d} h. ap (λ c. get_or c d 0) f.power ∙ sym (rank_power (get_or s.delegations.power d 0) (g.delegations.power.narrow d));
    held = λ {d} h. tabulate_in delegation_of s.delegations.count d (rw f.delegations at h);
    all = λ m. let t = tabulate_out delegation_of s.delegations.count m in (t.at, (rw f.delegations t.within), t.is);
    revokes = λ {k} {d} h r. names k d h r;
    revoked = λ {k} {d} h r. named k d h r;
    decide = λ d. dec_lt d e.delegations;
    seek = λ d. mem_decided same_delegation d (committed s).delegations;
  }
    where
      names : (k d : ℕ) → d < e.delegations → Names e.revoker e.target e.revocations d k → InUse k × RevokedBy (store (committed s)) (key_at k) (delegation_of d)
      names k d h r =
          let j = r.place in
          let w : j < s.revocations.count = rw f.revocations at r.lt in
          let v : get_or s.revocations.issuer j 0 ≡ k = ap (λ c. get_or c j 0) (sym f.revoker) ∙ r.is.1 in (
            rw v at (g.revocations.issuer.held j w),
            record {
              revocation = revocation_of j;
              of = record {
                held = tabulate_in revocation_of s.revocations.count j w;
                names = at_place (run_at s.revocations.revoked j) d (sym (f.target j w) ∙ r.is.0) (rw f.delegations at h);
              };
              issuer = ap key_at v;
            },
          )

      named : (k : Bytes) (d : ℕ) → d < e.delegations → RevokedBy (store (committed s)) k (delegation_of d)
          → (x : ℕ) × (InUse x × (key_at x ≡ k)) × Names e.revoker e.target e.revocations d x
      named k d h r =
          let t = tabulate_out revocation_of s.revocations.count r.of.held in
          let j = t.at in
          let w = t.within in (
            get_or s.revocations.issuer j 0,
            (g.revocations.issuer.held j w, ap (λ v. v.issuer) t.is ∙ r.issuer),
            record {
              place = j;
              lt = rw f.revocations w;
              is = (
                f.target j w ∙ (ap (λ x. place Digests x) (ap (λ v. v.revoked) t.is ∙ r.of.names) ∙ sym (digest_place d (rw f.delegations at h))),
                ap (λ c. get_or c j 0) f.revoker,
              );
            },
          )
