-- The answer to an insertion: it is settled by what the checks see, and what it means that it is Added. Rests on ViewLaws.
use Prim.Native.Nat.{ℕ, ◌+◌, ◌≤◌, ◌<◌}
use mathlib.Core.Path.{◌≡◌, refl, sym, ap, ◌∙◌}
use mathlib.Core.Bool.{Bool, true, false, cond}
use mathlib.Core.List.{List}
use native.Mathlib.Omega.{arith}
use lib.ListN.{length, get_or}
use lib.Dec.{ltb, eqb}
use borrow.Author.Tests.{eqb-true, ltb-true, ltb-false}
use Rattle.std.specs.Prelude.{Result, Ok, Err}
use Rattle.codec.specs.Delegation.{Found, found, decoded}
use Rattle.power_levels.specs.declared.power.Power.{Power}
use Rattle.keyline.specs.declared.refusal.Refusal.{Refusal}
use Rattle.keyline.specs.declared.refusal.Refusal.TheVariants.{FullDelegations, FullRevocations, FullKeys}
use Rattle.places.specs.declared.DelegationPlace.{DelegationPlace}
use Rattle.places.specs.declared.RevocationPlace.{RevocationPlace}
use Rattle.runs.specs.Bytes.{Bytes, run_at}
use Rattle.runs.specs.Members.{place, fresh}
use Rattle.runs.specs.Table.{runs}
use Rattle.keyline.specs.Limits.{key_length, digest_length, key_limit, delegation_limit, revocation_limit}
use Rattle.tables.specs.Committed.{Delegation, Revocation, delegation_keys, revocation_keys, same_content, same_revoked}
use Rattle.tables.specs.Insertion.{Seen, seen_delegation, seen_revocation, held_answer, keys_answer, accepted_answer, payload_answer, delegation_from, delegation_check, delegation_answer, revocation_from, revocation_settled, revocation_check, revocation_answer}
use Rattle.tables.specs.Columns.{key_place, row_at}
use Rattle.tables.specs.Look.{delegation_there, revocation_there}
use Rattle.store.specs.Store.{committed, GoodStore}
use Rattle.store.specs.declared.Store.{Store}
use Rattle.tables.proofs.ContentLaws.{any_digest, any_revoked}
use Rattle.store.proofs.ViewLaws.{keys_same, delegations_long, revocations_long, delegation_found, delegation_is, revocation_found, revocation_is}
use Rattle.tables.specs.declared.answer.Outcome.{Outcome}
use Rattle.tables.specs.declared.answer.Outcome.TheVariants.{Added}

-- ---- settled by what is seen: certificates of kind A, whose content `same` compares
pub record Alike {A : Type 0} (same : A → A → Bool) (v w : Seen A) : Type 0 where
  pub keys : (ks : List Bytes) → keys_answer v.keys ks ≡ keys_answer w.keys ks
  pub count : v.count ≡ w.count
  pub held : v.held ≡ w.held
  pub other : w.held ≡ true → (a : A) → same v.other a ≡ same w.other a

module _ (v w : Seen Delegation) (a : Alike same_content v w) where
  accepted_same : (g : Delegation) → accepted_answer v g ≡ accepted_answer w g
  unfolding accepted_answer
  accepted_same g = rw (a.held, a.count) (go w.held a.other)
    where
      go : (t : Bool) → (t ≡ true → (h : Delegation) → same_content v.other h ≡ same_content w.other h)
          → cond t (held_answer (same_content v.other g)) (cond (ltb w.count delegation_limit) (keys_answer v.keys (delegation_keys g)) (Err FullDelegations))
          ≡ cond t (held_answer (same_content w.other g)) (cond (ltb w.count delegation_limit) (keys_answer w.keys (delegation_keys g)) (Err FullDelegations))
      go true f = ap held_answer (f refl g)
      go false f = rw (a.keys (delegation_keys g))

  paid_same : (r : Result Found Refusal) (d i p : Bytes) → payload_answer r v d i p ≡ payload_answer r w d i p
  paid_same (Err r) d i p = refl
  paid_same (Ok (found x t)) d i p = accepted_same (delegation_from d i p x)

  delegation_same : (d i p : Bytes) → delegation_check v d i p ≡ delegation_check w d i p
  unfolding delegation_check
  delegation_same d i p = rw (paid_same (decoded p) d i p)

module _ (v w : Seen Revocation) (a : Alike same_revoked v w) where
  settled_same : (r : Revocation) → revocation_settled v r ≡ revocation_settled w r
  unfolding revocation_settled
  settled_same r = rw (a.held, a.count) (go w.held a.other)
    where
      go : (t : Bool) → (t ≡ true → (h : Revocation) → same_revoked v.other h ≡ same_revoked w.other h)
          → cond t (held_answer (same_revoked v.other r)) (cond (ltb w.count revocation_limit) (keys_answer v.keys (revocation_keys r)) (Err FullRevocations))
          ≡ cond t (held_answer (same_revoked w.other r)) (cond (ltb w.count revocation_limit) (keys_answer w.keys (revocation_keys r)) (Err FullRevocations))
      go true f = ap held_answer (f refl r)
      go false f = rw (a.keys (revocation_keys r))

  revocation_same : (d i x : Bytes) → revocation_check v d i x ≡ revocation_check w d i x
  unfolding revocation_check
  revocation_same d i x = rw (settled_same (revocation_from d i x))

-- ---- the tables show what is committed
module _ (s : Store) (g : GoodStore s) (d : Bytes) where
  pub delegation_seen : (at : DelegationPlace) → at.0 ≡ place (runs s.delegations.digests s.delegations.count) d → (i p : Bytes)
      → delegation_check (delegation_there s.keys.table s.keys.count s.delegations.citation s.delegations.count at (row_at s.delegations at.0)) d i p ≡ delegation_answer (committed s) d i p
  delegation_seen at e i p =
      delegation_same (delegation_there s.keys.table s.keys.count s.delegations.citation s.delegations.count at (row_at s.delegations at.0)) (seen_delegation (committed s) d)
      (record {
        keys = λ ks. keys_same (runs s.keys.table s.keys.count) (committed s) ks g.keys.apart g.exact;
        count = sym (delegations_long s);
        held = delegation_found s g d at.0 e;
        other = λ h b. rw (delegation_is s g d at.0 e (ltb-true at.0 s.delegations.count (delegation_found s g d at.0 e ∙ h))) (sym (any_digest _ b (run_at s.delegations.digests at.0)));
      }) d i p

  pub revocation_seen : (at : RevocationPlace) → at.0 ≡ place (runs s.revocations.digests s.revocations.count) d → (i x : Bytes)
      → revocation_check (revocation_there s.keys.table s.keys.count s.revocations.revoked s.revocations.count at (key_place (get_or s.revocations.issuer at.0 0))) d i x ≡ revocation_answer (committed s) d i x
  revocation_seen at e i x =
      revocation_same (revocation_there s.keys.table s.keys.count s.revocations.revoked s.revocations.count at (key_place (get_or s.revocations.issuer at.0 0))) (seen_revocation (committed s) d)
      (record {
        keys = λ ks. keys_same (runs s.keys.table s.keys.count) (committed s) ks g.keys.apart g.exact;
        count = sym (revocations_long s);
        held = revocation_found s g d at.0 e;
        other = λ h b. rw (revocation_is s g d at.0 e (ltb-true at.0 s.revocations.count (revocation_found s g d at.0 e ∙ h))) (sym (any_revoked _ b (run_at s.revocations.digests at.0)));
      }) d i x

-- ---- what Added means
clash : {r : Refusal} → Err r ≡ (Ok Added) → ⊥
clash e = let z : ◌≡◌ {A = ℕ} 0 1 = cc in omega arith

cond_added : (t : Bool) (a : Result Outcome Refusal) (r : Refusal) → cond t a (Err r) ≡ (Ok Added) → (t ≡ true) × (a ≡ (Ok Added))
cond_added true a r h = (refl, h)
cond_added false a r h = absurd (clash h)

held_not : (t : Bool) → held_answer t ≡ (Ok Added) → ⊥
held_not true e = let z : ◌≡◌ {A = ℕ} 0 1 = cc in omega arith
held_not false e = clash e

new_added : (t u : Bool) (a : Result Outcome Refusal) → cond t (held_answer u) a ≡ (Ok Added) → (t ≡ false) × (a ≡ (Ok Added))
new_added true u a h = absurd (held_not u h)
new_added false u a h = (refl, h)

keys_room : (l ks : List Bytes) → keys_answer l ks ≡ (Ok Added) → length l + length (fresh l ks) ≤ key_limit
unfolding keys_answer
keys_room l ks h = go (ltb key_limit (length l + length (fresh l ks))) refl h
  where
    go : (t : Bool) → ltb key_limit (length l + length (fresh l ks)) ≡ t → cond t (Err (FullKeys (length (fresh l ks)))) (Ok Added) ≡ (Ok Added) → length l + length (fresh l ks) ≤ key_limit
    go true e k = absurd (clash k)
    go false e k = ltb-false key_limit (length l + length (fresh l ks)) e

pub record DelegationAdded (v : Seen Delegation) (d i p : Bytes) : Type 0 where
  pub digest : length d ≡ digest_length
  pub issuer : length i ≡ key_length
  pub power : Power
  pub tag : Bool
  pub read : decoded p ≡ Ok (found power tag)
  pub new : v.held ≡ false
  pub room : v.count < delegation_limit
  pub keys : length v.keys + length (fresh v.keys (delegation_keys (delegation_from d i p power))) ≤ key_limit

pub delegation_added_lem : (v : Seen Delegation) (d i p : Bytes) → delegation_check v d i p ≡ (Ok Added) → DelegationAdded v d i p
unfolding delegation_check accepted_answer
delegation_added_lem v d i p h =
    let a = cond_added (eqb (length d) digest_length) _ _ h in
    let b = cond_added (eqb (length i) key_length) _ _ a.1 in
    go (decoded p) refl (eqb-true (length d) digest_length a.0) (eqb-true (length i) key_length b.0) b.1
  where
    go : (r : Result Found Refusal) → decoded p ≡ r → length d ≡ digest_length → length i ≡ key_length → payload_answer r v d i p ≡ (Ok Added) → DelegationAdded v d i p
    go (Err r) e x y k = absurd (clash k)
    go (Ok (found w t)) e x y k =
        let q = new_added v.held (same_content v.other (delegation_from d i p w)) (cond (ltb v.count delegation_limit) (keys_answer v.keys (delegation_keys (delegation_from d i p w))) (Err FullDelegations)) k in
        let u = cond_added (ltb v.count delegation_limit) (keys_answer v.keys (delegation_keys (delegation_from d i p w))) FullDelegations q.1 in
        record {
          digest = x;
          issuer = y;
          power = w;
          tag = t;
          read = e;
          new = q.0;
          room = ltb-true v.count delegation_limit u.0;
          keys = keys_room v.keys (delegation_keys (delegation_from d i p w)) u.1;
        }

pub record RevocationAdded (v : Seen Revocation) (d i x : Bytes) : Type 0 where
  pub digest : length d ≡ digest_length
  pub issuer : length i ≡ key_length
  pub revoked : length x ≡ digest_length
  pub new : v.held ≡ false
  pub room : v.count < revocation_limit
  pub keys : length v.keys + length (fresh v.keys (revocation_keys (revocation_from d i x))) ≤ key_limit

pub revocation_added_lem : (v : Seen Revocation) (d i x : Bytes) → revocation_check v d i x ≡ (Ok Added) → RevocationAdded v d i x
unfolding revocation_check revocation_settled
revocation_added_lem v d i x h =
    let a = cond_added (eqb (length d) digest_length) _ _ h in
    let b = cond_added (eqb (length i) key_length) _ _ a.1 in
    let c = cond_added (eqb (length x) digest_length) _ _ b.1 in
    let q = new_added v.held (same_revoked v.other (revocation_from d i x)) (cond (ltb v.count revocation_limit) (keys_answer v.keys (revocation_keys (revocation_from d i x))) (Err FullRevocations)) c.1 in
    let u = cond_added (ltb v.count revocation_limit) (keys_answer v.keys (revocation_keys (revocation_from d i x))) FullRevocations q.1 in
    record {
      digest = eqb-true (length d) digest_length a.0;
      issuer = eqb-true (length i) key_length b.0;
      revoked = eqb-true (length x) digest_length c.0;
      new = q.0;
      room = ltb-true v.count revocation_limit u.0;
      keys = keys_room v.keys (revocation_keys (revocation_from d i x)) u.1;
    }
