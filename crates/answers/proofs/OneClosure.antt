-- Demand 3 on the calls (`demand_3`; specs/OneClosure says what that is).
-- Idea: the definitions' answers coincide (demand_3 of Rattle.rules), each call's statement settles its answer from them (Settled), and a
-- delegation of the closure is the one that its digest names in both sets.
use Prim.Native.Nat.{ℕ, suc}
use mathlib.Core.Path.{◌≡◌, refl, sym, ◌∙◌, ap}
use mathlib.Core.Bool.{Bool, true, false, cond}
use mathlib.Core.Logic.{inl, inr, ◌↔◌}
use lib.ListN.{length, get_or}
use mathlib.Core.List.Memᴰ
use mathlib.Core.List.{List, [], ◌∷◌, map, Memᴰ}
use native.Mathlib.Omega.{arith}
use Rattle.rules.specs.Rules.{Closure, Live, ConveyedIs, StandingIs, DelegationTo, RevocationOf}
use Rattle.rules.specs.OneClosure.{RestsOnClosure}
use Rattle.rules.proofs.Evaluation.Listing.{lists_same}
use Rattle.rules.proofs.Stores.OneClosure as rules
use Rattle.runs.specs.Bytes.{Bytes, eq_bytes}
use Rattle.runs.specs.Members.{has, place}
use Rattle.lists.specs.Lists.{length_first, list_answer, list_buffer, delegations_to, revocations_of, names, from_to, Item}
use Rattle.lists.proofs.AreLists.{delegations_list, revocations_list}
use Rattle.tables.specs.Committed.{Delegation, Revocation, Committed, no_delegation, delegation_digests, delegation_with}
use Rattle.answers.specs.Graph.{graph, store}
use Rattle.answers.specs.OneClosure.{Apart, OneClosure, SameAnswers}
use Rattle.runs.proofs.BoolLaws.{both_true}
use Rattle.runs.proofs.ByteLaws.{eq_true, eq_same}
use Rattle.runs.proofs.AscentLaws.{lt_not_both}
use Rattle.answers.proofs.Equality.{finite}
use Rattle.answers.proofs.Settled.{power_settled, conveyed_power_settled, is_live_settled, standing_answer_settled, members_answer_settled, closure_answer_settled}
use Rattle.keyline.specs.declared.refusal.Refusal.{Refusal}
use Rattle.std.specs.Prelude.{Result}

-- A held delegation is the one with its digest.
named : (l : List Delegation) (d : Delegation) → ((e : Delegation) → Memᴰ e l → e.digest ≡ d.digest → e ≡ d) → Memᴰ d l
    → (has (map (λ g. g.digest) l) d.digest ≡ true) × (get_or l (place (map (λ g. g.digest) l) d.digest) no_delegation ≡ d)
unfolding has place
named [] d apart m = absurd (Memᴰ.not-nil m)
named (e ∷ l) d apart m = go (eq_bytes e.digest d.digest) refl (λ n. named l d (λ f k. apart f (Memᴰ.tail k)) n)
  where
    go : (t : Bool) → eq_bytes e.digest d.digest ≡ t
        → (Memᴰ d l → (has (map (λ g. g.digest) l) d.digest ≡ true) × (get_or l (place (map (λ g. g.digest) l) d.digest) no_delegation ≡ d))
        → (cond t true (has (map (λ g. g.digest) l) d.digest) ≡ true)
        × (get_or (e ∷ l) (cond t 0 (suc (place (map (λ g. g.digest) l) d.digest))) no_delegation ≡ d)
    go true q rest = (refl, apart e (Memᴰ.head refl) (eq_true e.digest d.digest q))
    go false q rest = elim (Memᴰ.cases_cons m) [
      | inl p ↦ absurd (let r : eq_bytes e.digest d.digest ≡ true = eq_same e.digest d.digest (ap (λ x. x.digest) (sym p)) in
          let b : ◌≡◌ {A = Bool} true false = sym r ∙ q in let z : ◌≡◌ {A = ℕ} 0 1 = cc in omega arith)
      | inr n ↦ rest n
    ]

module _ (c : Committed) (apart : Apart c) where
  pub held_named : (d : Delegation) → Memᴰ d c.delegations → (has (delegation_digests c) d.digest ≡ true) × (delegation_with c d.digest ≡ d)
  held_named d m = named c.delegations d (λ e k q. apart e d k m q) m

-- ## The lists that need no evaluation
-- what is listed in A is listed in B, where each delegation or revocation that is meant is in both
between : (A B : Committed) (s x y : Bytes) → ((d : Delegation) → DelegationTo (graph A) s x d → DelegationTo (graph B) s x d)
    → Item (λ g. g.digest) (from_to s x) A.delegations y → Item (λ g. g.digest) (from_to s x) B.delegations y
between A B s x y f i =
    let e = both_true (eq_bytes i.one.subject s) (eq_bytes i.one.audience x) i.fits in
    let t = f i.one (record { held = i.held; subject = eq_true i.one.subject s e.0; audience = eq_true i.one.audience x e.1 }) in
    record { one = i.one; held = t.held; fits = i.fits; is = i.is }

naming : (A B : Committed) (d : Delegation) (y : Bytes) → ((v : Revocation) → RevocationOf (store A) d v → RevocationOf (store B) d v)
    → Item (λ v. v.digest) (names d.digest) A.revocations y → Item (λ v. v.digest) (names d.digest) B.revocations y
naming A B d y f i =
    let t = f i.one (record { held = i.held; names = eq_true i.one.revoked d.digest i.fits }) in
    record { one = i.one; held = t.held; fits = i.fits; is = i.is }

-- equal lists give equal answers and bytes, as the answer and the buffer are computed from the list
listed : (f : List Bytes → Result ℕ Refusal) (out : Bytes) {l m : List Bytes} {r q : Result ℕ Refusal} {o₁ o₂ : Bytes}
    → l ≡ m → (r ≡ f l) × (o₁ ≡ list_buffer r l out) → (q ≡ f m) × (o₂ ≡ list_buffer q m out) → (r ≡ q) × (o₁ ≡ o₂)
listed f out {l} {m} {r} {q} e a b =
    let p : r ≡ q = a.0 ∙ ap f e ∙ sym b.0 in
    (p, a.1 ∙ ap (λ (x : (Result ℕ Refusal) × List Bytes). list_buffer x.0 x.1 out) (pair p e) ∙ sym b.1)
  where
    pair : {x y : Result ℕ Refusal} {k n : List Bytes} → x ≡ y → k ≡ n → ◌≡◌ {A = (Result ℕ Refusal) × List Bytes} (x, k) (y, n)
    pair g h = cc

module _ (A B : Committed) (s : Bytes) (apart : Apart A) (apart' : Apart B) (one : OneClosure A B s) where
  rests : RestsOnClosure (store A) (store B) s
  rests = rules.demand_3 (finite A) one.there one.back

  module _ (d : Delegation) (c : Closure (graph A) s d) where
    here : (has (delegation_digests A) d.digest ≡ true) × (delegation_with A d.digest ≡ d)
    here = held_named A apart d c.held

    there : (has (delegation_digests B) d.digest ≡ true) × (delegation_with B d.digest ≡ d)
    there = held_named B apart' d (one.there.dels c).held

    same : has (delegation_digests A) d.digest ≡ has (delegation_digests B) d.digest
    same = here.0 ∙ sym there.0

    -- what is so of d is so of the delegations that both sets have under its digest
    of : (P : Delegation → Delegation → Type 0) → P d d → P (delegation_with A d.digest) (delegation_with B d.digest)
    of P p = rw (here.1, there.1) p

    same_revocations : revocations_of A d.digest ≡ revocations_of B d.digest
    same_revocations =
        lists_same lt_not_both (λ x i. naming A B d x (λ v. (rests.revocations c).0) i) (λ x i. naming B A d x (λ v. (rests.revocations c).1) i)
        (revocations_list A d.digest) (revocations_list B d.digest)

  same_delegations : (x : Bytes) → delegations_to A s x ≡ delegations_to B s x
  same_delegations x =
      lists_same lt_not_both (λ y i. between A B s x y (λ d. rests.delegations.0) i) (λ y i. between B A s x y (λ d. rests.delegations.1) i)
      (delegations_list A s x) (delegations_list B s x)

  pub demand_3 : SameAnswers A B s
  demand_3 = record {
    positive = λ x r q. power_settled (λ o p. rests.positive);
    effective = λ x r q. power_settled (λ o p. rests.effective);
    members = λ keys powers r q k₁ k₂ p₁ p₂ a b.
        let e = members_answer_settled (λ ms ns. rests.members lt_not_both) a b in (e.answer, e.keys, e.powers);
    live = λ d c r q. is_live_settled A B d.digest (same d c) (λ h. of d c (λ x y. Live (graph A) x ↔ Live (graph B) y) (rests.live c));
    conveyed = λ d c r q. conveyed_power_settled A B d.digest (same d c) (λ h o p.
        of d c (λ x y. ConveyedIs (graph A) x o → ConveyedIs (graph B) y p → o ≡ p) (rests.conveyed c));
    standing = λ d c r q. standing_answer_settled A B d.digest (same d c) (λ h o p.
        of d c (λ x y. StandingIs (graph A) x o → StandingIs (graph B) y p → o ≡ p) (rests.standing c));
    closure = λ out r q o₁ o₂ a b.
        let e = closure_answer_settled (λ ds es vs ws a b. (
          lists_same (λ d e. lt_not_both d.digest e.digest) (λ d h. one.there.dels h) (λ d h. one.back.dels h) a.delegations b.delegations,
          lists_same (λ v w. lt_not_both v.digest w.digest) (λ v h. one.there.revs h) (λ v h. one.back.revs h) a.revocations b.revocations,
        )) a b in (e.answer, e.out);
    same_delegations_to = λ x out r q o₁ o₂ a b. listed (λ l. length_first s (length_first x (list_answer l (length out)))) out (same_delegations x) a b;
    same_revocations_of = λ d c out r q o₁ o₂ a b. listed (λ l. length_first d.digest (list_answer l (length out))) out (same_revocations d c) a b;
  }
