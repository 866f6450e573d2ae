-- One insertion that is not refused, over what is held: the certificate is there already, or it is put at the end and there was room
-- (`entry`). What such an insertion keeps (`built`), and which certificates are held after it.
use Prim.Native.Nat.{ℕ, ◌+◌, ◌≤◌, ◌<◌}
use mathlib.Core.Path.{◌≡◌, refl, sym, ap, ◌∙◌, subst}
use mathlib.Core.Bool.{Bool, true, false, cond, false≢true}
use mathlib.Core.Logic.{◌⊎◌, inl, inr}
use mathlib.Core.List.Memᴰ
use mathlib.Core.List.{List, [], ◌∷◌, ◌++◌, Memᴰ}
use native.Mathlib.Omega.{arith}
use lib.ListN.{length, length-append}
use lib.Dec.{ltb, eqb}
use borrow.Author.Tests.{eqb-true}
use Rattle.keyline.specs.Limits.{key_length, digest_length, key_limit, delegation_limit, revocation_limit}
use Rattle.power_levels.specs.Power.{rank_of}
use Rattle.power_levels.proofs.Levels.{same_rank}
use Rattle.codec.specs.Delegation.{found, Found, decoded}
use Rattle.power_levels.specs.declared.power.Power.{Power}
use Rattle.keyline.specs.declared.refusal.Refusal.{Refusal}
use Rattle.keyline.specs.declared.refusal.Refusal.TheVariants.{FullDelegations, FullRevocations, FullKeys}
use Rattle.runs.specs.Bytes.{Bytes, eq_bytes}
use Rattle.runs.specs.Members.{has, fresh, Distinct}
use Rattle.runs.proofs.BoolLaws.{both_true}
use Rattle.runs.proofs.ByteLaws.{eq_true}
use Rattle.tables.specs.Committed.{Delegation, Revocation, Committed, no_delegation, no_revocation, delegation_digests, revocation_digests, delegation_with, revocation_with, delegation_keys, revocation_keys, keys, same_content, same_parts, same_revoked}
use Rattle.tables.specs.Insertion.{Seen, seen_delegation, seen_revocation, held_answer, keys_answer, accepted_answer, payload_answer, delegation_from, delegation_check, delegation_answer, delegation_added, with_delegation, revocation_from, revocation_settled, revocation_check, revocation_answer, revocation_added, with_revocation, read_delegation, settled}
use Rattle.store.proofs.MadeLaws.{delegation_made, revocation_made}
use Rattle.insertion.proofs.AnswerLaws.{delegation_added_lem, revocation_added_lem}
use Rattle.tables.proofs.ContentLaws.{content_parts, revoked_parts}
use Rattle.tables.proofs.PayloadLaws.{parts}
use Rattle.order.specs.AnyOrder.{Certificate, delegation, revocation, answer_to, held_after, is_refused}
use Rattle.order.proofs.Inserting.{found_entry, more_distinct, Within, del_key, rev_key, key_of, keys_few}
use Rattle.tables.specs.declared.answer.Outcome.{Outcome}
use Rattle.tables.specs.declared.answer.Outcome.TheVariants.{Added, NotAdded}
use Rattle.std.specs.Prelude.{Result, Ok, Err}

-- ## What a certificate says
pub record Reads (d i p : Bytes) (g : Delegation) : Type 0 where
  pub digest : length d ≡ digest_length
  pub issuer : length i ≡ key_length
  pub power : Power
  pub tag : Bool
  pub read : decoded p ≡ Ok (found power tag)
  pub is : g ≡ delegation_from d i p power

pub record Names (d i x : Bytes) (r : Revocation) : Type 0 where
  pub digest : length d ≡ digest_length
  pub issuer : length i ≡ key_length
  pub revoked : length x ≡ digest_length
  pub is : r ≡ revocation_from d i x

pub data SaysDel : Certificate → Delegation → Type 0 where
  delegates : {d i p : Bytes} {g : Delegation} → Reads d i p g → SaysDel (delegation d i p) g

pub data SaysRev : Certificate → Revocation → Type 0 where
  revokes : {d i x : Bytes} {r : Revocation} → Names d i x r → SaysRev (revocation d i x) r

-- ## What insertions keep
pub record Built (c : Committed) : Type 0 where
  pub delegations : Distinct (delegation_digests c)
  pub revocations : Distinct (revocation_digests c)
  pub few_delegations : length c.delegations ≤ delegation_limit
  pub few_revocations : length c.revocations ≤ revocation_limit
  pub few_keys : length (keys c) ≤ key_limit
  pub long : (g : Delegation) → Memᴰ g c.delegations → (length g.audience ≡ key_length) × (length g.subject ≡ key_length)

-- ## An insertion that is not refused
pub data Entry (c : Committed) : Certificate → Committed → Type 0 where
  same_delegation : {d i p : Bytes} {g : Delegation} → Reads d i p g → Memᴰ g c.delegations → Entry c (delegation d i p) c
  new_delegation : {d i p : Bytes} {g : Delegation} → Reads d i p g → has (delegation_digests c) g.digest ≡ false → length c.delegations < delegation_limit
      → length (keys c) + length (fresh (keys c) (delegation_keys g)) ≤ key_limit → Entry c (delegation d i p) (with_delegation c g)
  same_revocation : {d i x : Bytes} {r : Revocation} → Names d i x r → Memᴰ r c.revocations → Entry c (revocation d i x) c
  new_revocation : {d i x : Bytes} {r : Revocation} → Names d i x r → has (revocation_digests c) r.digest ≡ false → length c.revocations < revocation_limit
      → length (keys c) + length (fresh (keys c) (revocation_keys r)) ≤ key_limit → Entry c (revocation d i x) (with_revocation c r)

-- ---- equal content under one digest is one certificate
one_delegation : (g h : Delegation) → g.digest ≡ h.digest → g.issuer ≡ h.issuer → g.audience ≡ h.audience → g.subject ≡ h.subject → g.power ≡ h.power
    → g.citation ≡ h.citation → g ≡ h
one_delegation g h a b c d e f = delegation_made a b c d e f

one_revocation : (r q : Revocation) → r.digest ≡ q.digest → r.issuer ≡ q.issuer → r.revoked ≡ q.revoked → r ≡ q
one_revocation r q a b c = revocation_made a b c

same_one : (g h : Delegation) → g.digest ≡ h.digest → length g.audience ≡ length h.audience → length g.subject ≡ length h.subject → same_content g h ≡ true → g ≡ h
unfolding same_parts
same_one g h q l m e =
    let p = sym (content_parts g h l m) ∙ e in
    let a = both_true (eq_bytes g.issuer h.issuer) _ p in
    let b = both_true (eq_bytes g.audience h.audience) _ a.1 in
    let c = both_true (eq_bytes g.subject h.subject) _ b.1 in
    let d = both_true (eqb (rank_of g.power) (rank_of h.power)) _ c.1 in
    one_delegation g h q (eq_true _ _ a.0) (eq_true _ _ b.0) (eq_true _ _ c.0) (same_rank _ _ (eqb-true _ _ d.0)) (eq_true _ _ d.1)

-- ---- what NotAdded means
not_refused_lem : {r : Refusal} → Err r ≡ (Ok NotAdded) → ⊥
not_refused_lem e = let z : ◌≡◌ {A = ℕ} 0 1 = cc in omega arith

passed : (t : Bool) (a : Result Outcome Refusal) (r : Refusal) → cond t a (Err r) ≡ (Ok NotAdded) → (t ≡ true) × (a ≡ (Ok NotAdded))
passed true a r h = (refl, h)
passed false a r h = absurd (not_refused_lem h)

equal_content : (t : Bool) → held_answer t ≡ (Ok NotAdded) → t ≡ true
equal_content true h = refl
equal_content false h = absurd (not_refused_lem h)

never_keys : (l ks : List Bytes) → keys_answer l ks ≡ (Ok NotAdded) → ⊥
unfolding keys_answer
never_keys l ks h = go (ltb key_limit (length l + length (fresh l ks))) h
  where
    go : (t : Bool) → cond t (Err (FullKeys (length (fresh l ks)))) (Ok Added) ≡ (Ok NotAdded) → ⊥
    go true k = not_refused_lem k
    go false k = let z : ◌≡◌ {A = ℕ} 0 1 = cc in omega arith

held_content : (t u n : Bool) (a : Result Outcome Refusal) (r : Refusal) → (a ≡ (Ok NotAdded) → ⊥) → cond t (held_answer u) (cond n a (Err r)) ≡ (Ok NotAdded) → (t ≡ true) × (u ≡ true)
held_content true u n a r f h = (refl, equal_content u h)
held_content false u true a r f h = absurd (f h)
held_content false u false a r f h = absurd (not_refused_lem h)

record KnownDelegation (v : Seen Delegation) (d i p : Bytes) : Type 0 where
  pub digest : length d ≡ digest_length
  pub issuer : length i ≡ key_length
  pub power : Power
  pub tag : Bool
  pub read : decoded p ≡ Ok (found power tag)
  pub held : v.held ≡ true
  pub same : same_content v.other (delegation_from d i p power) ≡ true

delegation_known : (v : Seen Delegation) (d i p : Bytes) → delegation_check v d i p ≡ (Ok NotAdded) → KnownDelegation v d i p
unfolding delegation_check accepted_answer
delegation_known v d i p h =
    let a = passed (eqb (length d) digest_length) _ _ h in
    let b = passed (eqb (length i) key_length) _ _ a.1 in
    go (decoded p) refl (eqb-true (length d) digest_length a.0) (eqb-true (length i) key_length b.0) b.1
  where
    go : (r : Result Found Refusal) → decoded p ≡ r → length d ≡ digest_length → length i ≡ key_length → payload_answer r v d i p ≡ (Ok NotAdded) → KnownDelegation v d i p
    go (Err r) e x y k = absurd (not_refused_lem k)
    go (Ok (found w t)) e x y k =
        let g = delegation_from d i p w in
        let q = held_content v.held (same_content v.other g) (ltb v.count delegation_limit) (keys_answer v.keys (delegation_keys g)) FullDelegations (never_keys v.keys (delegation_keys g)) k in
        record { digest = x; issuer = y; power = w; tag = t; read = e; held = q.0; same = q.1 }

record KnownRevocation (v : Seen Revocation) (d i x : Bytes) : Type 0 where
  pub names : Names d i x (revocation_from d i x)
  pub held : v.held ≡ true
  pub same : same_revoked v.other (revocation_from d i x) ≡ true

revocation_known : (v : Seen Revocation) (d i x : Bytes) → revocation_check v d i x ≡ (Ok NotAdded) → KnownRevocation v d i x
unfolding revocation_check revocation_settled
revocation_known v d i x h =
    let a = passed (eqb (length d) digest_length) _ _ h in
    let b = passed (eqb (length i) key_length) _ _ a.1 in
    let c = passed (eqb (length x) digest_length) _ _ b.1 in
    let r = revocation_from d i x in
    let q = held_content v.held (same_revoked v.other r) (ltb v.count revocation_limit) (keys_answer v.keys (revocation_keys r)) FullRevocations (never_keys v.keys (revocation_keys r)) c.1 in
    record {
      names = record { digest = eqb-true (length d) digest_length a.0; issuer = eqb-true (length i) key_length b.0; revoked = eqb-true (length x) digest_length c.0; is = refl };
      held = q.0;
      same = q.1;
    }

-- ---- the entry
module _ (c : Committed) (b : Built c) where
  delegation_entry : (d i p : Bytes) → is_refused (delegation_answer c d i p) ≡ false → Entry c (delegation d i p) (settled (delegation_answer c d i p) c (delegation_added c d i p))
  delegation_entry d i p h = go (delegation_answer c d i p) refl h
    where
      go : (a : Result Outcome Refusal) → delegation_answer c d i p ≡ a → is_refused a ≡ false → Entry c (delegation d i p) (settled a c (delegation_added c d i p))
      go (Err r) e k = absurd (false≢true (sym k))
      go (Ok Added) e k =
          let q = delegation_added_lem (seen_delegation c d) d i p e in
          let g = delegation_from d i p q.power in
          let r : Reads d i p g = record { digest = q.digest; issuer = q.issuer; power = q.power; tag = q.tag; read = q.read; is = refl } in
          subst (λ (y : Result Found Refusal). Entry c (delegation d i p) (with_delegation c (read_delegation y d i p))) (sym q.read) (new_delegation r q.new q.room q.keys)
      go (Ok NotAdded) e k =
          let q = delegation_known (seen_delegation c d) d i p e in
          let g = delegation_from d i p q.power in
          let o = found_entry (λ x. x.digest) c.delegations d no_delegation q.held in
          let l = b.long (delegation_with c d) o.0 in
          let m = parts p q.power q.tag q.read in
          let s = same_one (delegation_with c d) g o.1 (l.0 ∙ sym m.audience) (l.1 ∙ sym m.subject) q.same in
          same_delegation (record { digest = q.digest; issuer = q.issuer; power = q.power; tag = q.tag; read = q.read; is = refl }) (subst (λ (x : Delegation). Memᴰ x c.delegations) s o.0)

  revocation_entry : (d i x : Bytes) → is_refused (revocation_answer c d i x) ≡ false → Entry c (revocation d i x) (settled (revocation_answer c d i x) c (revocation_added c d i x))
  revocation_entry d i x h = go (revocation_answer c d i x) refl h
    where
      go : (a : Result Outcome Refusal) → revocation_answer c d i x ≡ a → is_refused a ≡ false → Entry c (revocation d i x) (settled a c (revocation_added c d i x))
      go (Err r) e k = absurd (false≢true (sym k))
      go (Ok Added) e k =
          let q = revocation_added_lem (seen_revocation c d) d i x e in
          new_revocation (record { digest = q.digest; issuer = q.issuer; revoked = q.revoked; is = refl }) q.new q.room q.keys
      go (Ok NotAdded) e k =
          let q = revocation_known (seen_revocation c d) d i x e in
          let o = found_entry (λ y. y.digest) c.revocations d no_revocation q.held in
          let m = revoked_parts (revocation_with c d) (revocation_from d i x) q.same in
          let s = one_revocation (revocation_with c d) (revocation_from d i x) o.1 m.0 m.1 in
          same_revocation q.names (subst (λ (y : Revocation). Memᴰ y c.revocations) s o.0)

  pub entry : (k : Certificate) → is_refused (answer_to c k) ≡ false → Entry c k (held_after c k)
  unfolding answer_to held_after
  entry (delegation d i p) h = delegation_entry d i p h
  entry (revocation d i x) h = revocation_entry d i x h

-- ## What is held after it
one_more : {A : Type 0} (l : List A) {g a : A} → Memᴰ a (l ++ (g ∷ [])) → Memᴰ a l ⊎ (a ≡ g)
one_more l m = elim (Memᴰ.append_cases l m) [ inl k ↦ inl k | inr k ↦ inr (Memᴰ.eq_of_singleton k) ]

pub keeps : {c e : Committed} {k : Certificate} → Entry c k e → Within c e
keeps (same_delegation r m) = record { delegations = λ g n. n; revocations = λ v n. n }
keeps (new_delegation {g = h} r n l s) = record { delegations = λ g m. Memᴰ.append_left (h ∷ []) m; revocations = λ v m. m }
keeps (same_revocation r m) = record { delegations = λ g n. n; revocations = λ v n. n }
keeps (new_revocation {r = q} r n l s) = record { delegations = λ g m. m; revocations = λ v m. Memᴰ.append_left (q ∷ []) m }

pub only_delegations : {c e : Committed} {k : Certificate} → Entry c k e → (g : Delegation) → Memᴰ g e.delegations → Memᴰ g c.delegations ⊎ SaysDel k g
only_delegations (same_delegation r m) g n = inl n
only_delegations {c} {k = k} (new_delegation {g = h} r n l s) g m = elim (one_more c.delegations m) [
  | inl q ↦ inl q
  | inr q ↦ inr (subst (λ (x : Delegation). SaysDel k x) (sym q) (delegates r))
]
only_delegations (same_revocation r m) g n = inl n
only_delegations (new_revocation r n l s) g m = inl m

pub only_revocations : {c e : Committed} {k : Certificate} → Entry c k e → (v : Revocation) → Memᴰ v e.revocations → Memᴰ v c.revocations ⊎ SaysRev k v
only_revocations (same_delegation r m) v n = inl n
only_revocations (new_delegation r n l s) v m = inl m
only_revocations (same_revocation r m) v n = inl n
only_revocations {c} {k = k} (new_revocation {r = q} r n l s) v m = elim (one_more c.revocations m) [
  | inl e ↦ inl e
  | inr e ↦ inr (subst (λ (x : Revocation). SaysRev k x) (sym e) (revokes r))
]

-- a certificate says one thing
one_reading : {d i p : Bytes} {g h : Delegation} → Reads d i p g → Reads d i p h → g ≡ h
one_reading {d} {i} {p} r q = let e : r.power ≡ q.power = same_power (sym r.read ∙ q.read) in r.is ∙ ap (delegation_from d i p) e ∙ sym q.is
  where
    same_power : {w u : Power} {s t : Bool} → ◌≡◌ {A = Result Found Refusal} (Ok (found w s)) (Ok (found u t)) → w ≡ u
    same_power e = cc

pub one_saying : {k : Certificate} {g h : Delegation} → SaysDel k g → SaysDel k h → g ≡ h
one_saying (delegates r) (delegates q) = one_reading r q

pub one_naming : {k : Certificate} {v w : Revocation} → SaysRev k v → SaysRev k w → v ≡ w
one_naming (revokes r) (revokes q) = r.is ∙ sym q.is

-- what it says is held
pub data Said (c : Committed) (k : Certificate) : Type 0 where
  by_delegation : {g : Delegation} → SaysDel k g → Memᴰ g c.delegations → Said c k
  by_revocation : {v : Revocation} → SaysRev k v → Memᴰ v c.revocations → Said c k

pub says : {c e : Committed} {k : Certificate} → Entry c k e → Said e k
says (same_delegation r m) = by_delegation (delegates r) m
says {c} (new_delegation r n l s) = by_delegation (delegates r) (Memᴰ.append_right c.delegations (Memᴰ.head refl))
says (same_revocation r m) = by_revocation (revokes r) m
says {c} (new_revocation r n l s) = by_revocation (revokes r) (Memᴰ.append_right c.revocations (Memᴰ.head refl))

-- ---- the invariant
pub built : {c e : Committed} {k : Certificate} → Entry c k e → Built c → Built e
built (same_delegation r m) b = b
built {c} (new_delegation {p = p} {g = g} r n l s) b = record {
  delegations = more_distinct (λ x. x.digest) c.delegations g b.delegations n;
  revocations = b.revocations;
  few_delegations = let q = length-append c.delegations (g ∷ []) in omega arith;
  few_revocations = b.few_revocations;
  few_keys = let q = keys_few c (with_delegation c g) (delegation_keys g) (λ k h. elim (key_of (with_delegation c g) k h) [
    | inl t ↦ elim (one_more c.delegations t.held) [
      | inl m ↦ inl (del_key c m k t.has_key)
      | inr e ↦ inr (rw (← e) t.has_key)
    ]
    | inr t ↦ inl (rev_key c t.held k t.has_key)
  ]) in omega arith;
  long = λ h m. elim (one_more c.delegations m) [
    | inl q ↦ b.long h q
    | inr e ↦ let u = parts p r.power r.tag r.read in let f : h ≡ _ = e ∙ r.is in (ap (λ x. length x.audience) f ∙ u.audience, ap (λ x. length x.subject) f ∙ u.subject)
  ];
}
built (same_revocation r m) b = b
built {c} (new_revocation {r = q} r n l s) b = record {
  delegations = b.delegations;
  revocations = more_distinct (λ x. x.digest) c.revocations q b.revocations n;
  few_delegations = b.few_delegations;
  few_revocations = let t = length-append c.revocations (q ∷ []) in omega arith;
  few_keys = let u = keys_few c (with_revocation c q) (revocation_keys q) (λ k h. elim (key_of (with_revocation c q) k h) [
    | inl t ↦ inl (del_key c t.held k t.has_key)
    | inr t ↦ elim (one_more c.revocations t.held) [
      | inl m ↦ inl (rev_key c m k t.has_key)
      | inr e ↦ inr (rw (← e) t.has_key)
    ]
  ]) in omega arith;
  long = b.long;
}
