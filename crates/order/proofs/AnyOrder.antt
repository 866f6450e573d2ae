-- The order of insertions does not matter (`any_order`): certificates of which none is refused in one order are refused in no other, nor is any
-- part of them, and the sets that they build hold the same. Idea: after insertions of which none is refused a set holds exactly what the
-- certificates say; what is held at any time in the other order is a part of that, so there is room and no conflict (`welcome`).
use Prim.Native.Nat.{◌+◌, ◌≤◌, ◌<◌}
use mathlib.Core.Path.{◌≡◌, refl, sym, ap, ◌∙◌, subst}
use mathlib.Core.Bool.{Bool, true, false, cond, false≢true}
use mathlib.Core.Logic.{◌⊎◌, inl, inr}
use mathlib.Core.List.Memᴰ
use mathlib.Core.List.{List, [], ◌∷◌, Memᴰ}
use native.Mathlib.Omega.{arith}
use lib.ListN.{length}
use borrow.Author.Tests.{eq-eqb, lt-ltb, le-ltb}
use Rattle.keyline.specs.Limits.{key_length, digest_length, key_limit, delegation_limit, revocation_limit}
use Rattle.runs.specs.Bytes.{Bytes}
use Rattle.runs.specs.Members.{has, fresh}
use Rattle.runs.proofs.FreshLaws.{none_distinct}
use Rattle.tables.specs.Committed.{Delegation, Revocation, Committed, nothing, no_delegation, no_revocation, delegation_digests, revocation_digests, delegation_with, revocation_with, delegation_keys, revocation_keys, keys_of, keys_in, keys, same_content, same_revoked}
use Rattle.tables.specs.Insertion.{delegation_answer, delegation_check, accepted_answer, keys_answer, delegation_from, revocation_answer, revocation_check, revocation_settled, revocation_from}
use Rattle.tables.proofs.ContentLaws.{same_content_lem, same_revoked_lem}
use Rattle.order.specs.AnyOrder.{Certificate, delegation, revocation, answer_to, held_after, held_after_all, is_refused, none_refused, Among, SameHeld}
use Rattle.order.proofs.Inserting.{found_entry, one_each, fewer, Within, del_key, rev_key, keys_fit}
use Rattle.order.proofs.Entries.{Reads, Names, SaysDel, delegates, SaysRev, revokes, Built, entry, keeps, only_delegations, only_revocations, one_saying, one_naming, Said, by_delegation, by_revocation, says, built}
use Rattle.tables.specs.declared.answer.Outcome.TheVariants.{Added, NotAdded}
use Rattle.std.specs.Prelude.{Ok}

-- ## One insertion that another set has room for
-- ---- the answer, from what it rests on
module _ (c : Committed) (d i p : Bytes) (g : Delegation) (r : Reads d i p g) where
  known_delegation : has (delegation_digests c) d ≡ true → delegation_with c d ≡ g → delegation_answer c d i p ≡ (Ok NotAdded)
  unfolding delegation_check accepted_answer
  known_delegation h o =
      let s : same_content (delegation_with c d) (delegation_from d i p r.power) ≡ true = rw (o, r.is) (same_content_lem _ _ refl refl) in
      rw (eq-eqb (length d) digest_length r.digest, eq-eqb (length i) key_length r.issuer, r.read, h, s)

  fresh_delegation : has (delegation_digests c) d ≡ false → length c.delegations < delegation_limit
      → length (keys c) + length (fresh (keys c) (delegation_keys (delegation_from d i p r.power))) ≤ key_limit → delegation_answer c d i p ≡ (Ok Added)
  unfolding delegation_check accepted_answer keys_answer
  fresh_delegation h l k =
      rw (
        eq-eqb (length d) digest_length r.digest,
        eq-eqb (length i) key_length r.issuer,
        r.read,
        h,
        lt-ltb (length c.delegations) delegation_limit l,
        le-ltb key_limit (length (keys c) + length (fresh (keys c) (delegation_keys (delegation_from d i p r.power)))) k,
      )

module _ (c : Committed) (d i x : Bytes) (v : Revocation) (r : Names d i x v) where
  known_revocation : has (revocation_digests c) d ≡ true → revocation_with c d ≡ v → revocation_answer c d i x ≡ (Ok NotAdded)
  unfolding revocation_check revocation_settled
  known_revocation h o =
      let s : same_revoked (revocation_with c d) (revocation_from d i x) ≡ true = rw (o, r.is) (same_revoked_lem _ _ refl refl) in
      rw (eq-eqb (length d) digest_length r.digest, eq-eqb (length i) key_length r.issuer, eq-eqb (length x) digest_length r.revoked, h, s)

  fresh_revocation : has (revocation_digests c) d ≡ false → length c.revocations < revocation_limit
      → length (keys c) + length (fresh (keys c) (revocation_keys (revocation_from d i x))) ≤ key_limit → revocation_answer c d i x ≡ (Ok Added)
  unfolding revocation_check revocation_settled keys_answer
  fresh_revocation h l k =
      rw (
        eq-eqb (length d) digest_length r.digest,
        eq-eqb (length i) key_length r.issuer,
        eq-eqb (length x) digest_length r.revoked,
        h,
        lt-ltb (length c.revocations) revocation_limit l,
        le-ltb key_limit (length (keys c) + length (fresh (keys c) (revocation_keys (revocation_from d i x)))) k,
      )

-- ---- c within e, which holds what k says
module _ (c e : Committed) (b : Built c) (f : Built e) (w : Within c e) where
  welcome_delegation : (d i p : Bytes) (g : Delegation) → Reads d i p g → Memᴰ g e.delegations → is_refused (delegation_answer c d i p) ≡ false
  welcome_delegation d i p g r m = go (has (delegation_digests c) d) refl
    where
      digest : g.digest ≡ d
      digest = ap (λ x. x.digest) r.is

      go : (t : Bool) → has (delegation_digests c) d ≡ t → is_refused (delegation_answer c d i p) ≡ false
      go true h =
          let o = found_entry (λ x. x.digest) c.delegations d no_delegation h in
          let q = one_each (λ x. x.digest) e.delegations f.delegations (w.delegations (delegation_with c d) o.0) m (o.1 ∙ sym digest) in
          ap is_refused (known_delegation c d i p g r h q)
      go false h =
          let n : has (delegation_digests c) g.digest ≡ false = rw digest h in
          let l = fewer (λ x. x.digest) c.delegations e.delegations g b.delegations n w.delegations m in
          let few = f.few_delegations in
          let k = keys_fit c e (delegation_keys g) w (λ y a. del_key e m y a) in
          let room = f.few_keys in
          let s : length (keys c) + length (fresh (keys c) (delegation_keys (delegation_from d i p r.power))) ≤ key_limit =
          subst (λ (x : Delegation). length (keys c) + length (fresh (keys c) (delegation_keys x)) ≤ key_limit) r.is (omega arith) in
          ap is_refused (fresh_delegation c d i p g r h (omega arith) s)

  welcome_revocation : (d i x : Bytes) (v : Revocation) → Names d i x v → Memᴰ v e.revocations → is_refused (revocation_answer c d i x) ≡ false
  welcome_revocation d i x v r m = go (has (revocation_digests c) d) refl
    where
      digest : v.digest ≡ d
      digest = ap (λ y. y.digest) r.is

      go : (t : Bool) → has (revocation_digests c) d ≡ t → is_refused (revocation_answer c d i x) ≡ false
      go true h =
          let o = found_entry (λ y. y.digest) c.revocations d no_revocation h in
          let q = one_each (λ y. y.digest) e.revocations f.revocations (w.revocations (revocation_with c d) o.0) m (o.1 ∙ sym digest) in
          ap is_refused (known_revocation c d i x v r h q)
      go false h =
          let n : has (revocation_digests c) v.digest ≡ false = rw digest h in
          let l = fewer (λ y. y.digest) c.revocations e.revocations v b.revocations n w.revocations m in
          let few = f.few_revocations in
          let k = keys_fit c e (revocation_keys v) w (λ y a. rev_key e m y a) in
          let room = f.few_keys in
          let s : length (keys c) + length (fresh (keys c) (revocation_keys (revocation_from d i x))) ≤ key_limit =
          subst (λ (y : Revocation). length (keys c) + length (fresh (keys c) (revocation_keys y)) ≤ key_limit) r.is (omega arith) in
          ap is_refused (fresh_revocation c d i x v r h (omega arith) s)

  welcome : (k : Certificate) → Said e k → is_refused (answer_to c k) ≡ false
  unfolding answer_to
  welcome (delegation d i p) (by_delegation {g = g} (delegates r) m) = welcome_delegation d i p g r m
  welcome (revocation d i x) (by_revocation {v = v} (revokes r) m) = welcome_revocation d i x v r m
  welcome (delegation d i p) (by_revocation s m) = elim s [ ]
  welcome (revocation d i x) (by_delegation s m) = elim s [ ]

-- ## One after the other
within_all : {c d e : Committed} → Within c d → Within d e → Within c e
within_all v w = record { delegations = λ g m. w.delegations g (v.delegations g m); revocations = λ r m. w.revocations r (v.revocations r m) }

said_on : {c e : Committed} {k : Certificate} → Within c e → Said c k → Said e k
said_on w (by_delegation {g = g} s m) = by_delegation s (w.delegations g m)
said_on w (by_revocation {v = v} s m) = by_revocation s (w.revocations v m)

first_rest : (a b : Bool) → cond a false b ≡ true → (a ≡ false) × (b ≡ true)
first_rest true b h = absurd (false≢true h)
first_rest false b h = (refl, h)

split : (c : Committed) (k : Certificate) (ks : List Certificate) → none_refused c (k ∷ ks) ≡ true → (is_refused (answer_to c k) ≡ false) × (none_refused (held_after c k) ks ≡ true)
unfolding none_refused
split c k ks h = first_rest (is_refused (answer_to c k)) (none_refused (held_after c k) ks) h

joins : (c : Committed) (k : Certificate) (ks : List Certificate) → is_refused (answer_to c k) ≡ false → none_refused (held_after c k) ks ≡ true → none_refused c (k ∷ ks) ≡ true
unfolding none_refused
joins c k ks h r = rw h r

-- a certificate of ks says it
pub record DelegatedBy (ks : List Certificate) (g : Delegation) : Type 0 where
  pub one : Certificate
  pub among : Memᴰ one ks
  pub says : SaysDel one g

pub record RevokedBy (ks : List Certificate) (v : Revocation) : Type 0 where
  pub one : Certificate
  pub among : Memᴰ one ks
  pub says : SaysRev one v

-- e is what is held after ks, from c on
pub record After (c : Committed) (ks : List Certificate) (e : Committed) : Type 0 where
  pub built : Built e
  pub kept : Within c e
  pub said : (k : Certificate) → Memᴰ k ks → Said e k
  pub delegations : (g : Delegation) → Memᴰ g e.delegations → Memᴰ g c.delegations ⊎ DelegatedBy ks g
  pub revocations : (v : Revocation) → Memᴰ v e.revocations → Memᴰ v c.revocations ⊎ RevokedBy ks v

pub after : (ks : List Certificate) (c : Committed) → Built c → none_refused c ks ≡ true → After c ks (held_after_all c ks)
unfolding held_after_all
after [] c b h = record {
  built = b;
  kept = record { delegations = λ g m. m; revocations = λ v m. m };
  said = λ k m. absurd (Memᴰ.not-nil m);
  delegations = λ g m. inl m;
  revocations = λ v m. inl m;
}
after (k ∷ ks) c b h =
    let s = split c k ks h in
    let n = entry c b k s.0 in
    let t = after ks (held_after c k) (built n b) s.1 in
    record {
      built = t.built;
      kept = within_all (keeps n) t.kept;
      said = λ j m. elim (Memᴰ.cases_cons m) [ inl e ↦ subst (λ (x : Certificate). Said (held_after_all (held_after c k) ks) x) (sym e) (said_on t.kept (says n)) | inr i ↦ t.said j i ];
      delegations = λ g m. elim (t.delegations g m) [
        | inl i ↦ elim (only_delegations n g i) [ inl j ↦ inl j | inr u ↦ inr (record { one = k; among = Memᴰ.head refl; says = u }) ]
        | inr u ↦ inr (record { one = u.one; among = Memᴰ.tail u.among; says = u.says })
      ];
      revocations = λ v m. elim (t.revocations v m) [
        | inl i ↦ elim (only_revocations n v i) [ inl j ↦ inl j | inr u ↦ inr (record { one = k; among = Memᴰ.head refl; says = u }) ]
        | inr u ↦ inr (record { one = u.one; among = Memᴰ.tail u.among; says = u.says })
      ];
    }

-- a certificate is of one kind
delegates_not : {k : Certificate} {g : Delegation} {v : Revocation} → SaysDel k g → SaysRev k v → ⊥
delegates_not s t = false≢true (sym (revokes_kind t) ∙ delegates_kind s)
  where
    kind : Certificate → Bool
    kind (delegation d i p) = true
    kind (revocation d i x) = false

    delegates_kind : {k : Certificate} {g : Delegation} → SaysDel k g → kind k ≡ true
    delegates_kind (delegates r) = refl

    revokes_kind : {k : Certificate} {v : Revocation} → SaysRev k v → kind k ≡ false
    revokes_kind (revokes r) = refl

-- what a certificate says is held where it is Said
says_held : {e : Committed} {k : Certificate} {g : Delegation} → Said e k → SaysDel k g → Memᴰ g e.delegations
says_held {e} (by_delegation s m) t = subst (λ (x : Delegation). Memᴰ x e.delegations) (one_saying s t) m
says_held (by_revocation s m) t = absurd (delegates_not t s)

names_held : {e : Committed} {k : Certificate} {v : Revocation} → Said e k → SaysRev k v → Memᴰ v e.revocations
names_held (by_delegation s m) t = absurd (delegates_not s t)
names_held {e} (by_revocation s m) t = subst (λ (x : Revocation). Memᴰ x e.revocations) (one_naming s t) m

-- certificates that a set e within the limits holds are not refused, from any part of e on
accepted : (e : Committed) → Built e → (ls : List Certificate) (c : Committed) → Built c → Within c e → ((k : Certificate) → Memᴰ k ls → Said e k) → none_refused c ls ≡ true
unfolding none_refused
accepted e f [] c b w s = refl
accepted e f (k ∷ ls) c b w s =
    let h = welcome c e b f w k (s k (Memᴰ.head refl)) in
    let n = entry c b k h in
    let v : Within (held_after c k) e = record {
      delegations = λ g m. elim (only_delegations n g m) [ inl i ↦ w.delegations g i | inr u ↦ says_held (s k (Memᴰ.head refl)) u ];
      revocations = λ r m. elim (only_revocations n r m) [ inl i ↦ w.revocations r i | inr u ↦ names_held (s k (Memᴰ.head refl)) u ];
    } in
    joins c k ls h (accepted e f ls (held_after c k) (built n b) v (λ j m. s j (Memᴰ.tail m)))

-- ## From nothing on
pub empty : Built nothing
unfolding keys_in keys_of fresh
empty = record {
  delegations = none_distinct;
  revocations = none_distinct;
  few_delegations = omega arith;
  few_revocations = omega arith;
  few_keys = omega arith;
  long = λ g m. absurd (Memᴰ.not-nil m);
}

-- Of certificates of which none is refused, no part is refused in any order ..
pub part_accepted : (ks ls : List Certificate) → Among ls ks → none_refused nothing ks ≡ true → none_refused nothing ls ≡ true
part_accepted ks ls a h =
    let t = after ks nothing empty h in
    accepted (held_after_all nothing ks) t.built ls nothing empty t.kept (λ k m. t.said k (a k m))

-- .. and holds no more.
pub part_held : (ks ls : List Certificate) → Among ls ks → none_refused nothing ks ≡ true → Within (held_after_all nothing ls) (held_after_all nothing ks)
part_held ks ls a h =
    let t = after ks nothing empty h in
    let u = after ls nothing empty (part_accepted ks ls a h) in
    record {
      delegations = λ g m. elim (u.delegations g m) [ inl i ↦ absurd (Memᴰ.not-nil i) | inr s ↦ says_held (t.said s.one (a s.one s.among)) s.says ];
      revocations = λ v m. elim (u.revocations v m) [ inl i ↦ absurd (Memᴰ.not-nil i) | inr s ↦ names_held (t.said s.one (a s.one s.among)) s.says ];
    }

pub any_order : (ks ls : List Certificate) → Among ks ls → Among ls ks → none_refused nothing ks ≡ true
    → (none_refused nothing ls ≡ true) × SameHeld (held_after_all nothing ks) (held_after_all nothing ls)
any_order ks ls a b h =
    let l = part_accepted ks ls b h in
    let v = part_held ls ks a l in
    let w = part_held ks ls b h in
    (l, record { delegations = λ g. (v.delegations g, w.delegations g); revocations = λ r. (v.revocations r, w.revocations r) })
