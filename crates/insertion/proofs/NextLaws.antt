-- A store with one certificate more: it holds that one beside the others, and is good. Rests on KeyLaws and ViewLaws.
use Prim.Native.Nat.{ℕ, ◌+◌, ◌*◌, ◌≤◌, ◌<◌}
use mathlib.Core.Path.{◌≡◌, refl, sym, ap, ◌∙◌}
use mathlib.Core.Bool.{Bool, true, false, cond}
use mathlib.Core.List.{List, [], ◌∷◌, ◌++◌, append_assoc, append-nil}
use native.Mathlib.Omega.{arith}
use lib.ListN.{length, get_or, set, length-set, length-append}
use lib.Seq.{get_or-set_same, get_or-set_other, get_or_at}
use lib.Dec.{eqb}
use borrow.Author.Tests.{eqb-true, eqb-false}
use Rattle.power_levels.specs.Power.{rank_of}
use Rattle.power_levels.proofs.Levels.{rank_below}
use Rattle.runs.specs.Bytes.{Bytes, run_length, run_at}
use Rattle.runs.specs.Members.{has, fresh}
use Rattle.runs.specs.Table.{tabulate, runs, Pushed}
use Rattle.runs.proofs.BoolLaws.{or, or_assoc}
use Rattle.runs.proofs.MemberLaws.{has-append}
use Rattle.runs.proofs.FreshLaws.{fresh_has}
use Rattle.runs.proofs.PartLaws.{tabulate_long, tabulate_snoc, tabulate_same}
use Rattle.runs.proofs.TableLaws.{runs_long, runs_at, kept_at}
use Rattle.keyline.specs.Limits.{key_limit, delegation_limit, revocation_limit}
use Rattle.power_levels.specs.Power.{level_count}
use Rattle.tables.specs.Committed.{Delegation, Revocation, Committed, delegation_keys, revocation_keys, keys_of, keys_in}
use Rattle.tables.specs.Insertion.{with_delegation, with_revocation}
use Rattle.tables.specs.Columns.{delegation_at, revocation_at, Places, Ranks}
use Rattle.store.specs.Store.{committed, GoodStore}
use Rattle.store.specs.Parts.{GoodDelegations, GoodRevocations, GoodParts, holds}
use Rattle.tables.specs.declared.keys.Keys.{Keys}
use Rattle.tables.specs.declared.delegations.Delegations.{Delegations}
use Rattle.tables.specs.declared.revocations.Revocations.{Revocations}
use Rattle.store.specs.declared.Store.{Store}
use Rattle.tables.proofs.ContentLaws.{power_rank}
use Rattle.store.proofs.MadeLaws.{delegation_made, revocation_made, committed_made}
use Rattle.insertion.proofs.KeyLaws.{WithKeys, Stands}

-- ---- columns
-- what holds of each entry holds of each with one set
each_set : {A : Type 0} (P : A → Type 0) (l : List A) (n : ℕ) (v z : A) → n < length l → P v → ((i : ℕ) → P (get_or l i z)) → (i : ℕ) → P (get_or (set l n v) i z)
each_set P l n v z h p f i = go (eqb i n) refl
  where
    go : (t : Bool) → eqb i n ≡ t → P (get_or (set l n v) i z)
    go true e = rw (eqb-true i n e, get_or-set_same l n v z h) p
    go false e = let m = eqb-false i n e in rw (get_or-set_other l n i v z m) (f i)

-- and of those before n
before_set : {A : Type 0} (l : List A) (n i : ℕ) (v z : A) → i < n → get_or (set l n v) i z ≡ get_or l i z
before_set l n i v z h = get_or-set_other l n i v z (λ e. omega arith)

module _ (limit n m m' : ℕ) (column : List ℕ) (c : Places limit n m column) (room : n < limit) (more : m ≤ m') (few : m' ≤ key_limit) where
  -- more keys, and one row more
  pub places_more : (v : ℕ) → v < m' → Places limit (n + 1) m' (set column n v)
  places_more v h =
      let l = c.long in
      record {
        long = simp length-set c.long;
        narrow = each_set (λ x. x < key_limit) column n v 0 (omega arith) (omega arith) c.narrow;
        held = λ i p. go i p (eqb i n) refl;
      }
    where
      go : (i : ℕ) → i < n + 1 → (t : Bool) → eqb i n ≡ t → get_or (set column n v) i 0 < m'
      go i p true e = let l = c.long in rw (eqb-true i n e, get_or-set_same column n v 0 (omega arith)) h
      go i p false e = let q = eqb-false i n e in let k = c.held i (omega arith) in rw (get_or-set_other column n i v 0 q) (omega arith)

-- more keys alone
places_on : (limit n m m' : ℕ) (column : List ℕ) → m ≤ m' → Places limit n m column → Places limit n m' column
places_on limit n m m' column h c = record { long = c.long; narrow = c.narrow; held = λ i p. let k = c.held i p in omega arith }

ranks_more : (limit n : ℕ) (column : List ℕ) (v : ℕ) → n < limit → v < level_count → Ranks limit column → Ranks limit (set column n v)
ranks_more limit n column v h p r =
    let l = r.long in
    record { long = simp length-set r.long; narrow = each_set (λ x. x < level_count) column n v 0 (omega arith) p r.narrow }

-- ---- the keys of one certificate more
keys_snoc : {A : Type 0} (f : A → List Bytes) (l : List A) (a : A) → keys_of f (l ++ (a ∷ [])) ≡ keys_of f l ++ f a
unfolding keys_of
keys_snoc f [] a = append-nil (f a)
keys_snoc f (x ∷ l) a = ap (λ (m : List Bytes). f x ++ m) (keys_snoc f l a) ∙ sym (append_assoc (f x) (keys_of f l) (f a))

swap : (a b c : Bool) → or (or a b) c ≡ or (or a c) b
swap true b c = refl
swap false true true = refl
swap false true false = refl
swap false false true = refl
swap false false false = refl

keys_with_delegation : (c : Committed) (g : Delegation) (k : Bytes) → has (keys_in (with_delegation c g)) k ≡ or (has (keys_in c) k) (has (delegation_keys g) k)
unfolding keys_in
keys_with_delegation c g k =
    let a = keys_of delegation_keys c.delegations in
    let r = keys_of revocation_keys c.revocations in
    rw (keys_snoc delegation_keys c.delegations g, has-append (a ++ delegation_keys g) r k, has-append a (delegation_keys g) k, has-append a r k) (swap (has a k) (has (delegation_keys g) k) (has r k))

keys_with_revocation : (c : Committed) (v : Revocation) (k : Bytes) → has (keys_in (with_revocation c v)) k ≡ or (has (keys_in c) k) (has (revocation_keys v) k)
unfolding keys_in
keys_with_revocation c v k =
    let a = keys_of delegation_keys c.delegations in
    let r = keys_of revocation_keys c.revocations in
    rw (keys_snoc revocation_keys c.revocations v, has-append a (r ++ revocation_keys v) k, has-append r (revocation_keys v) k, has-append a r k) (sym (or_assoc (has a k) (has r k) (has (revocation_keys v) k)))

-- ---- one row more
-- a column of places of keys has the place of k at n
pub record KeySet (u : Bytes) (m n : ℕ) (k : Bytes) (old new : List ℕ) : Type 0 where
  pub place : ℕ
  pub is_set : new ≡ set old n place
  pub stands : Stands u m place k

-- what a store has of its own, before it is known to be one
pub record Parts : Type 0 where
  pub keys : Keys
  pub delegations : Delegations
  pub revocations : Revocations
  pub version : ℕ

-- the parts of s become u, with the delegation a more
pub record DelegationPushed (s : Store) (u : Parts) (a : Delegation) : Type 0 where
  pub keys : WithKeys s.keys.table u.keys.table s.keys.count u.keys.count (delegation_keys a)
  pub digests : Pushed delegation_limit s.delegations.digests u.delegations.digests s.delegations.count a.digest
  pub room : s.delegations.count < delegation_limit
  pub count : u.delegations.count ≡ s.delegations.count + 1
  pub issuer : KeySet u.keys.table u.keys.count s.delegations.count a.issuer s.delegations.issuer u.delegations.issuer
  pub audience : KeySet u.keys.table u.keys.count s.delegations.count a.audience s.delegations.audience u.delegations.audience
  pub subject : KeySet u.keys.table u.keys.count s.delegations.count a.subject s.delegations.subject u.delegations.subject
  pub power : u.delegations.power ≡ set s.delegations.power s.delegations.count (rank_of a.power)
  pub flag : Bool
  pub cited : u.delegations.cited ≡ set s.delegations.cited s.delegations.count flag
  pub long : length u.delegations.citation ≡ run_length * delegation_limit
  pub before : (i : ℕ) → i < s.delegations.count → run_at u.delegations.citation i ≡ run_at s.delegations.citation i
  pub citation : cond flag (run_at u.delegations.citation s.delegations.count) [] ≡ a.citation
  pub revocations : u.revocations ≡ s.revocations
  pub version : u.version ≡ s.version + 1

pub record RevocationPushed (s : Store) (u : Parts) (a : Revocation) : Type 0 where
  pub keys : WithKeys s.keys.table u.keys.table s.keys.count u.keys.count (revocation_keys a)
  pub digests : Pushed revocation_limit s.revocations.digests u.revocations.digests s.revocations.count a.digest
  pub room : s.revocations.count < revocation_limit
  pub count : u.revocations.count ≡ s.revocations.count + 1
  pub issuer : KeySet u.keys.table u.keys.count s.revocations.count a.issuer s.revocations.issuer u.revocations.issuer
  pub long : length u.revocations.revoked ≡ run_length * revocation_limit
  pub before : (i : ℕ) → i < s.revocations.count → run_at u.revocations.revoked i ≡ run_at s.revocations.revoked i
  pub revoked : run_at u.revocations.revoked s.revocations.count ≡ a.revoked
  pub delegations : u.delegations ≡ s.delegations
  pub version : u.version ≡ s.version + 1

-- the digest that was pushed
pushed_digest : (limit : ℕ) (t u : Bytes) (n : ℕ) (x : Bytes) → Pushed limit t u n x → run_at u n ≡ x
pushed_digest limit t u n x p =
    sym (runs_at limit u (n + 1) p.good n (omega arith)) ∙ rw p.held (get_or_at (runs t n) x [] [] n (tabulate_long (run_at t) n))

-- ---- the keys of s, and more
module _ (s : Store) (u : Parts) (g : GoodStore s) (ks : List Bytes) (w : WithKeys s.keys.table u.keys.table s.keys.count u.keys.count ks) where
  more : s.keys.count ≤ u.keys.count
  more =
      let a = runs_long key_limit u.keys.table u.keys.count w.good in
      let b = runs_long key_limit s.keys.table s.keys.count g.keys in
      let e : length (runs u.keys.table u.keys.count) ≡ length (runs s.keys.table s.keys.count) + length (fresh (runs s.keys.table s.keys.count) ks) =
      ap (λ (l : List Bytes). length l) w.held ∙ length-append (runs s.keys.table s.keys.count) (fresh (runs s.keys.table s.keys.count) ks) in
      omega arith

  key_kept : (i : ℕ) → i < s.keys.count → run_at u.keys.table i ≡ run_at s.keys.table i
  key_kept i h = kept_at s.keys.table u.keys.table s.keys.count u.keys.count (fresh (runs s.keys.table s.keys.count) ks) w.held i h

  keys_has : (k : Bytes) → has (runs u.keys.table u.keys.count) k ≡ or (has (keys_in (committed s)) k) (has ks k)
  keys_has k = rw w.held (fresh_has (runs s.keys.table s.keys.count) ks k ∙ rw (g.exact k))

  -- the other kind's certificates stay
  delegations_kept : u.delegations ≡ s.delegations
      → tabulate (delegation_at u.keys.table u.delegations) u.delegations.count ≡ tabulate (delegation_at s.keys.table s.delegations) s.delegations.count
  delegations_kept e =
      rw e (tabulate_same (delegation_at u.keys.table s.delegations) (delegation_at s.keys.table s.delegations) s.delegations.count
      (λ i h. delegation_made refl (key_kept _ (g.delegations.issuer.held i h)) (key_kept _ (g.delegations.audience.held i h)) (key_kept _ (g.delegations.subject.held i h)) refl refl))

  revocations_kept : u.revocations ≡ s.revocations
      → tabulate (revocation_at u.keys.table u.revocations) u.revocations.count ≡ tabulate (revocation_at s.keys.table s.revocations) s.revocations.count
  revocations_kept e =
      rw e (tabulate_same (revocation_at u.keys.table s.revocations) (revocation_at s.keys.table s.revocations) s.revocations.count
      (λ i h. revocation_made refl (key_kept _ (g.revocations.issuer.held i h)) refl))

  good_delegations : u.delegations ≡ s.delegations → GoodDelegations u.keys.count u.delegations
  good_delegations e =
      let a = g.delegations in
      rw e (record {
        digests = a.digests;
        issuer = places_on delegation_limit _ _ _ _ more a.issuer;
        audience = places_on delegation_limit _ _ _ _ more a.audience;
        subject = places_on delegation_limit _ _ _ _ more a.subject;
        power = a.power;
        cited = a.cited;
        citation = a.citation;
      })

  good_revocations : u.revocations ≡ s.revocations → GoodRevocations u.keys.count u.revocations
  good_revocations e = let a = g.revocations in rw e (record { digests = a.digests; issuer = places_on revocation_limit _ _ _ _ more a.issuer; revoked = a.revoked })

  -- a column with one row more
  module _ (limit n : ℕ) (k : Bytes) (old new : List ℕ) (p : Places limit n s.keys.count old) (c : KeySet u.keys.table u.keys.count n k old new) (room : n < limit) where
    column_before : (i : ℕ) → i < n → run_at u.keys.table (get_or new i 0) ≡ run_at s.keys.table (get_or old i 0)
    column_before i h = rw (c.is_set, before_set old n i c.place 0 h) (key_kept (get_or old i 0) (p.held i h))

    column_here : run_at u.keys.table (get_or new n 0) ≡ k
    column_here = let l = p.long in rw (c.is_set, get_or-set_same old n c.place 0 (omega arith)) c.stands.is

    column_good : Places limit (n + 1) u.keys.count new
    column_good = rw c.is_set (places_more limit n s.keys.count u.keys.count old p room more w.good.room c.place c.stands.within)

-- ---- one delegation more
module _ (s : Store) (u : Parts) (g : GoodStore s) (a : Delegation) (h : DelegationPushed s u a) where
  abbrev n : ℕ
  n = s.delegations.count

  row_before : (i : ℕ) → i < n → delegation_at u.keys.table u.delegations i ≡ delegation_at s.keys.table s.delegations i
  row_before i p =
      let d = g.delegations in
      let w = h.keys in
      delegation_made (kept_at s.delegations.digests u.delegations.digests n (n + 1) (a.digest ∷ []) h.digests.held i p)
      (column_before s u g (delegation_keys a) w delegation_limit n a.issuer _ _ d.issuer h.issuer h.room i p)
      (column_before s u g (delegation_keys a) w delegation_limit n a.audience _ _ d.audience h.audience h.room i p)
      (column_before s u g (delegation_keys a) w delegation_limit n a.subject _ _ d.subject h.subject h.room i p)
      (rw (h.power, before_set s.delegations.power n i (rank_of a.power) 0 p))
      (rw (h.cited, before_set s.delegations.cited n i h.flag false p, h.before i p))

  row_here : delegation_at u.keys.table u.delegations n ≡ a
  row_here =
      let d = g.delegations in
      let w = h.keys in
      let r = h.room in
      let l = d.power.long in
      let m = d.cited in
      delegation_made (pushed_digest delegation_limit s.delegations.digests u.delegations.digests n a.digest h.digests)
      (column_here s u g (delegation_keys a) w delegation_limit n a.issuer _ _ d.issuer h.issuer h.room)
      (column_here s u g (delegation_keys a) w delegation_limit n a.audience _ _ d.audience h.audience h.room)
      (column_here s u g (delegation_keys a) w delegation_limit n a.subject _ _ d.subject h.subject h.room)
      (rw (h.power, get_or-set_same s.delegations.power n (rank_of a.power) 0 (omega arith)) (power_rank a.power))
      (rw (h.cited, get_or-set_same s.delegations.cited n h.flag false (omega arith)) h.citation)

  pub delegation_next : holds u.keys u.delegations u.revocations ≡ with_delegation (committed s) a
  unfolding holds
  delegation_next =
      committed_made
      (rw (h.count, tabulate_snoc (delegation_at u.keys.table u.delegations) n, row_here, tabulate_same (delegation_at u.keys.table u.delegations) (delegation_at s.keys.table s.delegations) n row_before))
      (revocations_kept s u g (delegation_keys a) h.keys h.revocations)

  pub delegation_good : GoodParts u.keys u.delegations u.revocations u.version
  delegation_good =
      let d = g.delegations in
      let w = h.keys in
      record {
        keys = w.good;
        exact = λ k. keys_has s u g (delegation_keys a) w k ∙ rw delegation_next (sym (keys_with_delegation (committed s) a k));
        delegations = record {
          digests = rw h.count h.digests.good;
          issuer = rw h.count (column_good s u g (delegation_keys a) w delegation_limit n a.issuer _ _ d.issuer h.issuer h.room);
          audience = rw h.count (column_good s u g (delegation_keys a) w delegation_limit n a.audience _ _ d.audience h.audience h.room);
          subject = rw h.count (column_good s u g (delegation_keys a) w delegation_limit n a.subject _ _ d.subject h.subject h.room);
          power = rw h.power (ranks_more delegation_limit n s.delegations.power (rank_of a.power) h.room (rank_below a.power) d.power);
          cited = rw h.cited (simp length-set d.cited);
          citation = h.long;
        };
        revocations = good_revocations s u g (delegation_keys a) w h.revocations;
        version = let v = g.version in let x = h.version in let c = h.count in let r : u.revocations.count ≡ s.revocations.count = rw h.revocations in omega arith;
      }

-- ---- one revocation more
module _ (s : Store) (u : Parts) (g : GoodStore s) (a : Revocation) (h : RevocationPushed s u a) where
  revoked_before : (i : ℕ) → i < s.revocations.count → revocation_at u.keys.table u.revocations i ≡ revocation_at s.keys.table s.revocations i
  revoked_before i p =
      let n = s.revocations.count in
      revocation_made (kept_at s.revocations.digests u.revocations.digests n (n + 1) (a.digest ∷ []) h.digests.held i p)
      (column_before s u g (revocation_keys a) h.keys revocation_limit n a.issuer _ _ g.revocations.issuer h.issuer h.room i p)
      (h.before i p)

  revoked_here : revocation_at u.keys.table u.revocations s.revocations.count ≡ a
  revoked_here =
      let n = s.revocations.count in
      revocation_made (pushed_digest revocation_limit s.revocations.digests u.revocations.digests n a.digest h.digests)
      (column_here s u g (revocation_keys a) h.keys revocation_limit n a.issuer _ _ g.revocations.issuer h.issuer h.room)
      h.revoked

  pub revocation_next : holds u.keys u.delegations u.revocations ≡ with_revocation (committed s) a
  unfolding holds
  revocation_next =
      committed_made (delegations_kept s u g (revocation_keys a) h.keys h.delegations)
      (rw (
        h.count,
        tabulate_snoc (revocation_at u.keys.table u.revocations) s.revocations.count,
        revoked_here,
        tabulate_same (revocation_at u.keys.table u.revocations) (revocation_at s.keys.table s.revocations) s.revocations.count revoked_before,
      ))

  pub revocation_good : GoodParts u.keys u.delegations u.revocations u.version
  revocation_good =
      let w = h.keys in
      record {
        keys = w.good;
        exact = λ k. keys_has s u g (revocation_keys a) w k ∙ rw revocation_next (sym (keys_with_revocation (committed s) a k));
        delegations = good_delegations s u g (revocation_keys a) w h.delegations;
        revocations = record {
          digests = rw h.count h.digests.good;
          issuer = rw h.count (column_good s u g (revocation_keys a) w revocation_limit s.revocations.count a.issuer _ _ g.revocations.issuer h.issuer h.room);
          revoked = h.long;
        };
        version = let v = g.version in let x = h.version in let c = h.count in let r : u.delegations.count ≡ s.delegations.count = rw h.delegations in omega arith;
      }
