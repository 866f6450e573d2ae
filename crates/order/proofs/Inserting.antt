-- Certificates by digest and the keys that they bring: distinct digests name one each, and what is within another list is no longer than it
-- (`fewer`, `keys_fit`, `keys_few`). Entries and AnyOrder count with these. Rests on the laws of `runs`.
use Prim.Native.Nat.{suc, ◌+◌, ◌≤◌, ◌<◌}
use mathlib.Core.Path.{◌≡◌, refl, sym, ap, ◌∙◌, subst}
use mathlib.Core.Bool.{Bool, true, false, cond, false≢true}
use mathlib.Core.Logic.{◌⊎◌, inl, inr}
use mathlib.Core.List.Memᴰ
use mathlib.Core.List.{List, [], ◌∷◌, ◌++◌, map, Memᴰ}
use native.Mathlib.Omega.{arith}
use lib.ListN.{length, get_or, length-append, length-map}
use Rattle.runs.specs.Bytes.{Bytes, eq_bytes}
use Rattle.runs.specs.Members.{has, place, fresh, Distinct}
use Rattle.tables.specs.Committed.{Delegation, Revocation, Committed, delegation_keys, revocation_keys, keys_of, keys_in, keys}
use Rattle.runs.proofs.BoolLaws.{or_cases, or_either}
use Rattle.runs.proofs.ByteLaws.{eq_true}
use Rattle.runs.proofs.MemberLaws.{mem_has, has_mem, has_not, has-append, distinct_snoc, distinct_head, distinct_tail, within_le}
use Rattle.runs.proofs.FreshLaws.{fresh_has, fresh_distinct, all_has, all_distinct}

-- ## Lists by digest
map_append : {A : Type 0} (f : A → Bytes) (l m : List A) → map f (l ++ m) ≡ map f l ++ map f m
map_append f [] m = refl
map_append f (x ∷ l) m = ap (λ (k : List Bytes). f x ∷ k) (map_append f l m)

module _ {A : Type 0} (f : A → Bytes) where
  digest_held : {l : List A} {a : A} → Memᴰ a l → has (map f l) (f a) ≡ true
  digest_held {l} {a} m = mem_has (f a) (map f l) (Memᴰ.map f m)

  -- the one with a digest that is held is there, and has the digest
  pub found_entry : (l : List A) (d : Bytes) (z : A) → has (map f l) d ≡ true
      → Memᴰ (get_or l (place (map f l) d) z) l × (f (get_or l (place (map f l) d) z) ≡ d)
  unfolding has place
  found_entry [] d z h = absurd (false≢true h)
  found_entry (x ∷ l) d z h = go (eq_bytes (f x) d) refl h (found_entry l d z)
    where
      go : (t : Bool) → eq_bytes (f x) d ≡ t → cond t true (has (map f l) d) ≡ true
          → (has (map f l) d ≡ true → Memᴰ (get_or l (place (map f l) d) z) l × (f (get_or l (place (map f l) d) z) ≡ d))
          → Memᴰ (get_or (x ∷ l) (cond t 0 (suc (place (map f l) d))) z) (x ∷ l) × (f (get_or (x ∷ l) (cond t 0 (suc (place (map f l) d))) z) ≡ d)
      go true e h k = (Memᴰ.head refl, eq_true (f x) d e)
      go false e h k = let r = k h in (Memᴰ.tail r.0, r.1)

  -- distinct digests name one each
  pub one_each : (l : List A) → Distinct (map f l) → {a b : A} → Memᴰ a l → Memᴰ b l → f a ≡ f b → a ≡ b
  one_each [] d m n e = absurd (Memᴰ.not-nil m)
  one_each (x ∷ l) d {a} {b} m n e = elim (Memᴰ.cases_cons m) [
    | inl p ↦ elim (Memᴰ.cases_cons n) [ inl q ↦ p ∙ sym q | inr k ↦ absurd (clash (ap f (sym p) ∙ e) k) ]
    | inr j ↦ elim (Memᴰ.cases_cons n) [ inl q ↦ absurd (clash (ap f (sym q) ∙ sym e) j) | inr k ↦ one_each l (distinct_tail (f x) (map f l) d) j k e ]
  ]
    where
      clash : {c : A} → f x ≡ f c → Memᴰ c l → ⊥
      clash {c} q k = false≢true (sym (distinct_head (f x) (map f l) d) ∙ rw q (digest_held k))

  -- one more
  pub more_distinct : (l : List A) (g : A) → Distinct (map f l) → has (map f l) (f g) ≡ false → Distinct (map f (l ++ (g ∷ [])))
  more_distinct l g d h = rw (map_append f l (g ∷ [])) (distinct_snoc (map f l) (f g) d (has_not (map f l) (f g) h))

  -- a list and one more within another are fewer
  pub fewer : (l m : List A) (g : A) → Distinct (map f l) → has (map f l) (f g) ≡ false → ((a : A) → Memᴰ a l → Memᴰ a m) → Memᴰ g m
      → length l < length m
  fewer l m g d h w n =
      let p = within_le (map f (l ++ (g ∷ []))) (map f m) (more_distinct l g d h) (λ k e. inside k (Memᴰ.of_map f (l ++ (g ∷ [])) (has_mem k (map f (l ++ (g ∷ []))) e))) in
      let a = length-map (l ++ (g ∷ [])) f in
      let b = length-map m f in
      let c = length-append l (g ∷ []) in
      omega arith
    where
      inside : (k : Bytes) → (a : A) × Memᴰ a (l ++ (g ∷ [])) × (f a ≡ k) → has (map f m) k ≡ true
      inside k r = elim (Memᴰ.append_cases l r.1) [
        | inl q ↦ rw (← r.2) (digest_held (w r.0 q))
        | inr q ↦ rw (← r.2) (digest_held {l = m} {a = r.0} (subst (λ (x : A). Memᴰ x m) (sym (Memᴰ.eq_of_singleton q)) n))
      ]

-- ## Keys
module _ {A : Type 0} (f : A → List Bytes) where
  keys_has : (l : List A) {a : A} → Memᴰ a l → (k : Bytes) → has (f a) k ≡ true → has (keys_of f l) k ≡ true
  unfolding keys_of
  keys_has [] m k h = absurd (Memᴰ.not-nil m)
  keys_has (x ∷ l) m k h = has-append (f x) (keys_of f l) k ∙ or_either (has (f x) k) (has (keys_of f l) k) (elim (Memᴰ.cases_cons m) [
    | inl p ↦ inl (rw (← p) h)
    | inr n ↦ inr (keys_has l n k h)
  ])

  pub record KeyOf (l : List A) (k : Bytes) : Type 0 where
    pub one : A
    pub held : Memᴰ one l
    pub has_key : has (f one) k ≡ true

  has_keys : (l : List A) (k : Bytes) → has (keys_of f l) k ≡ true → KeyOf l k
  unfolding keys_of has
  has_keys [] k h = absurd (false≢true h)
  has_keys (x ∷ l) k h = elim (or_cases (has (f x) k) (has (keys_of f l) k) (sym (has-append (f x) (keys_of f l) k) ∙ h)) [
    | inl e ↦ record { one = x; held = Memᴰ.head refl; has_key = e }
    | inr e ↦ let r = has_keys l k e in record { one = r.one; held = Memᴰ.tail r.held; has_key = r.has_key }
  ]

-- what c holds, e holds
pub record Within (c e : Committed) : Type 0 where
  pub delegations : (g : Delegation) → Memᴰ g c.delegations → Memᴰ g e.delegations
  pub revocations : (r : Revocation) → Memᴰ r c.revocations → Memᴰ r e.revocations

abbrev pub HasKey : Committed → Bytes → Type 0
HasKey c k = has (keys_in c) k ≡ true

pub del_key : (c : Committed) {g : Delegation} → Memᴰ g c.delegations → (k : Bytes) → has (delegation_keys g) k ≡ true → HasKey c k
unfolding keys_in
del_key c m k h =
    has-append (keys_of delegation_keys c.delegations) (keys_of revocation_keys c.revocations) k
    ∙ or_either (has (keys_of delegation_keys c.delegations) k) (has (keys_of revocation_keys c.revocations) k) (inl (keys_has delegation_keys c.delegations m k h))

pub rev_key : (c : Committed) {r : Revocation} → Memᴰ r c.revocations → (k : Bytes) → has (revocation_keys r) k ≡ true → HasKey c k
unfolding keys_in
rev_key c m k h =
    has-append (keys_of delegation_keys c.delegations) (keys_of revocation_keys c.revocations) k
    ∙ or_either (has (keys_of delegation_keys c.delegations) k) (has (keys_of revocation_keys c.revocations) k) (inr (keys_has revocation_keys c.revocations m k h))

pub key_of : (c : Committed) (k : Bytes) → HasKey c k → KeyOf delegation_keys c.delegations k ⊎ KeyOf revocation_keys c.revocations k
unfolding keys_in
key_of c k h = elim (or_cases (has (keys_of delegation_keys c.delegations) k) (has (keys_of revocation_keys c.revocations) k)
    (sym (has-append (keys_of delegation_keys c.delegations) (keys_of revocation_keys c.revocations) k) ∙ h)) [
      | inl e ↦ inl (has_keys delegation_keys c.delegations k e)
      | inr e ↦ inr (has_keys revocation_keys c.revocations k e)
    ]

-- keys of c, and ks, that e all has are no more than those of e
pub keys_fit : (c e : Committed) (ks : List Bytes) → Within c e → ((k : Bytes) → has ks k ≡ true → HasKey e k)
    → length (keys c) + length (fresh (keys c) ks) ≤ length (keys e)
keys_fit c e ks w f =
    let p = within_le (keys c ++ fresh (keys c) ks) (keys e) (fresh_distinct (keys c) ks (all_distinct (keys_in c))) (λ k h. all_has (keys_in e) k ∙ inside k h) in
    let q = length-append (keys c) (fresh (keys c) ks) in
    omega arith
  where
    inside : (k : Bytes) → has (keys c ++ fresh (keys c) ks) k ≡ true → HasKey e k
    inside k h = elim (or_cases (has (keys c) k) (has ks k) (sym (fresh_has (keys c) ks k) ∙ h)) [
      | inl a ↦ elim (key_of c k (sym (all_has (keys_in c) k) ∙ a)) [
        | inl r ↦ del_key e (w.delegations r.one r.held) k r.has_key
        | inr r ↦ rev_key e (w.revocations r.one r.held) k r.has_key
      ]
      | inr b ↦ f k b
    ]

-- the other way: where each key of e is one of c, or one of ks
pub keys_few : (c e : Committed) (ks : List Bytes) → ((k : Bytes) → HasKey e k → HasKey c k ⊎ (has ks k ≡ true))
    → length (keys e) ≤ length (keys c) + length (fresh (keys c) ks)
keys_few c e ks f =
    let p = within_le (keys e) (keys c ++ fresh (keys c) ks) (all_distinct (keys_in e)) (λ k h. fresh_has (keys c) ks k ∙ or_either (has (keys c) k) (has ks k) (inside k (f k (sym (all_has (keys_in e) k) ∙ h)))) in
    let q = length-append (keys c) (fresh (keys c) ks) in
    omega arith
  where
    inside : (k : Bytes) → HasKey c k ⊎ (has ks k ≡ true) → (has (keys c) k ≡ true) ⊎ (has ks k ≡ true)
    inside k (inl h) = inl (all_has (keys_in c) k ∙ h)
    inside k (inr h) = inr h
