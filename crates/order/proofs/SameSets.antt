-- Two sets that insertions built and that hold the same certificates answer every call alike (`same_sets`), so that `any_order` of AnyOrder
-- says of every answer that it does not depend on the order. Idea: closures are the same, so demand 3 speaks of every key; every held
-- delegation is in the closure of its own subject; and the other answers are settled by which certificates are held.
use Prim.Native.Nat.{ℕ}
use mathlib.Core.Path.{◌≡◌, refl, sym, ap, ◌∙◌, subst}
use mathlib.Core.Bool.{Bool, true, false}
use mathlib.Core.Logic.{inl, inr, ◌↔◌}
use mathlib.Core.Option.{Option}
use mathlib.Core.List.Memᴰ
use mathlib.Core.List.{List, [], ◌∷◌, ◌++◌, map, Memᴰ}
use native.Mathlib.Omega.{arith}
use Rattle.std.specs.Prelude.{Err, Ok, Result}
use lib.ListN.{length, get_or, length-map}
use Rattle.rules.specs.Rules.{Admin, Nobody, d1, Standing, Closure, Live, ConveyedIs, StandingIs}
use Rattle.rules.specs.OneClosure.{ListedIn, RestsOnClosure}
use Rattle.rules.proofs.Derivations.Monotone.{mono}
use Rattle.rules.proofs.Evaluation.Listing.{lists_same}
use Rattle.rules.proofs.Stores.OneClosure as rules
use Rattle.power_levels.specs.Power.{rank_of}
use Rattle.codec.specs.Delegation.{found, Found, decoded}
use Rattle.runs.specs.Bytes.{Bytes}
use Rattle.runs.specs.Members.{has, place, Distinct, SameRuns}
use Rattle.runs.proofs.MemberLaws.{mem_has, has_mem, has_not, same_long}
use Rattle.runs.proofs.FreshLaws.{fresh_same, all_has, all_distinct}
use Rattle.runs.proofs.AscentLaws.{lt_not_both}
use Rattle.tables.specs.Committed.{Delegation, Revocation, Committed, nothing, no_delegation, no_revocation, delegation_digests, revocation_digests, delegation_with, revocation_with, delegation_keys, revocation_keys, keys_in, keys}
use Rattle.tables.specs.Insertion.{seen_delegation, delegation_check, accepted_answer, payload_answer, keys_answer, delegation_from, delegation_added, revocation_check, revocation_settled, revocation_from, revocation_added, settled}
use Rattle.lists.specs.Lists.{listing, names, from_to}
use Rattle.lists.proofs.AreLists.{is_list}
use Rattle.answers.specs.Graph.{graph, store}
use Rattle.answers.specs.OneClosure.{Apart, OneClosure}
use Rattle.answers.proofs.Equality.{finite}
use Rattle.answers.proofs.Settled.{conveyed_power_settled, is_live_settled, standing_answer_settled}
use Rattle.answers.proofs.OneClosure.{demand_3}
use Rattle.keyline_memory.specs.State.{held_in}
use Rattle.keyline.specs.declared.refusal.Refusal.{Refusal}
use Rattle.tables.specs.declared.answer.Outcome.{Outcome}
use Rattle.keyline_memory.specs.declared.state.State.{State}
use Rattle.order.specs.AnyOrder.{Certificate, delegation, revocation, answer_to, held_after, held_after_all, none_refused, Among, Came, started, delegated, revoked, SameHeld, SameSets}
use Rattle.order.proofs.Inserting.{found_entry, one_each, HasKey, del_key, rev_key, key_of}
use Rattle.order.proofs.Entries.{Built}
use Rattle.order.proofs.AnyOrder.{empty, after, any_order}

-- ## Lists with the same members
module _ {A : Type 0} (f : A → Bytes) (z : A) (l m : List A) (there : (a : A) → Memᴰ a l → Memᴰ a m) (back : (a : A) → Memᴰ a m → Memᴰ a l) where
  same_listing : (p : A → Bool) → listing f p l ≡ listing f p m
  same_listing p = lists_same lt_not_both
      (λ x i. record { one = i.one; held = there i.one i.held; fits = i.fits; is = i.is })
      (λ x i. record { one = i.one; held = back i.one i.held; fits = i.fits; is = i.is })
      (is_list f p l) (is_list f p m)

  same_has : (d : Bytes) → has (map f l) d ≡ has (map f m) d
  same_has d = go (has (map f l) d) (has (map f m) d) refl refl
    where
      over : (k n : List A) → ((a : A) → Memᴰ a k → Memᴰ a n) → has (map f k) d ≡ true → has (map f n) d ≡ true
      over k n w h = let r = Memᴰ.of_map f k (has_mem d (map f k) h) in mem_has d (map f n) (subst (λ (x : Bytes). Memᴰ x (map f n)) r.2 (Memᴰ.map f (w r.0 r.1)))

      go : (s t : Bool) → has (map f l) d ≡ s → has (map f m) d ≡ t → s ≡ t
      go true true p q = refl
      go true false p q = sym (over l m there p) ∙ q
      go false true p q = sym p ∙ over m l back q
      go false false p q = refl

  module _ (dl : Distinct (map f l)) (dm : Distinct (map f m)) where
    same_count : length l ≡ length m
    same_count = sym (length-map l f) ∙ (same_long (map f l) (map f m) dl dm same_has ∙ length-map m f)

    same_with : (d : Bytes) → get_or l (place (map f l) d) z ≡ get_or m (place (map f m) d) z
    same_with d = go (has (map f l) d) refl
      where
        past : (k : List A) → has (map f k) d ≡ false → get_or k (place (map f k) d) z ≡ z
        past k h = rw (has_not (map f k) d h, length-map k f) (end k)
          where
            end : (k : List A) → get_or k (length k) z ≡ z
            end [] = refl
            end (x ∷ k) = end k

        go : (t : Bool) → has (map f l) d ≡ t → get_or l (place (map f l) d) z ≡ get_or m (place (map f m) d) z
        go true h =
            let a = found_entry f l d z h in
            let b = found_entry f m d z (sym (same_has d) ∙ h) in
            one_each f m dm (there _ a.0) b.0 (a.1 ∙ sym b.1)
        go false h = past l h ∙ sym (past m (sym (same_has d) ∙ h))

-- ## One closure
module _ (A B : Committed) (dels : (g : Delegation) → Memᴰ g A.delegations → Memᴰ g B.delegations)
    (revs : (v : Revocation) → Memᴰ v A.revocations → Memᴰ v B.revocations) (s : Bytes) where
  closure_on : (d : Delegation) → Closure (graph A) s d → Closure (graph B) s d
  closure_on d c =
      let a = mono {E' = λ g. Memᴰ g B.delegations} {N' = Nobody} {c' = λ g. rank_of g.power} dels (λ n x. x) (λ e m. omega arith) c.node.stands in
      record { held = dels d c.held; node = record { level = a.level; stands = a.holds } }

  listed_in : ListedIn (store A) (store B) s
  listed_in = record {
    dels = λ {d} c. closure_on d c;
    revs = λ {v} c. record { del = c.del; closure = closure_on c.del c.closure; of = record { held = revs v c.of.held; names = c.of.names } };
  }

-- a held delegation is in the closure of its subject
own : (c : Committed) (d : Delegation) → Memᴰ d c.delegations → Closure (graph c) d.subject d
own c d m = record { held = m; node = record { level = Admin; stands = d1 (λ x. x) } }

-- ## Keys
over_keys : (A B : Committed) → ((g : Delegation) → Memᴰ g A.delegations → Memᴰ g B.delegations)
    → ((v : Revocation) → Memᴰ v A.revocations → Memᴰ v B.revocations) → (k : Bytes) → HasKey A k → HasKey B k
over_keys A B f g k h = elim (key_of A k h) [
  | inl t ↦ del_key B (f t.one t.held) k t.has_key
  | inr t ↦ rev_key B (g t.one t.held) k t.has_key
]

module _ (A B : Committed) (a : Built A) (b : Built B) (same : SameHeld A B) where
  keys_same : SameRuns (keys A) (keys B)
  keys_same k = all_has (keys_in A) k ∙ (go (has (keys_in A) k) (has (keys_in B) k) refl refl ∙ sym (all_has (keys_in B) k))
    where
      go : (s t : Bool) → has (keys_in A) k ≡ s → has (keys_in B) k ≡ t → s ≡ t
      go true true p q = refl
      go true false p q = sym (over_keys A B (λ g. (same.delegations g).0) (λ v. (same.revocations v).0) k p) ∙ q
      go false true p q = sym p ∙ over_keys B A (λ g. (same.delegations g).1) (λ v. (same.revocations v).1) k q
      go false false p q = refl

  room_same : (ks : List Bytes) → keys_answer (keys A) ks ≡ keys_answer (keys B) ks
  unfolding keys_answer
  room_same ks = rw (same_long (keys A) (keys B) (all_distinct (keys_in A)) (all_distinct (keys_in B)) keys_same, fresh_same (keys A) (keys B) ks keys_same)

  -- ## Which certificates are held
  delegation_has : (d : Bytes) → has (delegation_digests A) d ≡ has (delegation_digests B) d
  delegation_has = same_has (λ g. g.digest) no_delegation A.delegations B.delegations (λ g. (same.delegations g).0) (λ g. (same.delegations g).1)

  revocation_has : (d : Bytes) → has (revocation_digests A) d ≡ has (revocation_digests B) d
  revocation_has = same_has (λ v. v.digest) no_revocation A.revocations B.revocations (λ v. (same.revocations v).0) (λ v. (same.revocations v).1)

  delegation_with_lem : (d : Bytes) → delegation_with A d ≡ delegation_with B d
  delegation_with_lem = same_with (λ g. g.digest) no_delegation A.delegations B.delegations (λ g. (same.delegations g).0) (λ g. (same.delegations g).1) a.delegations b.delegations

  revocation_with_lem : (d : Bytes) → revocation_with A d ≡ revocation_with B d
  revocation_with_lem = same_with (λ v. v.digest) no_revocation A.revocations B.revocations (λ v. (same.revocations v).0) (λ v. (same.revocations v).1) a.revocations b.revocations

  delegation_count : length A.delegations ≡ length B.delegations
  delegation_count = same_count (λ g. g.digest) no_delegation A.delegations B.delegations (λ g. (same.delegations g).0) (λ g. (same.delegations g).1) a.delegations b.delegations

  revocation_count : length A.revocations ≡ length B.revocations
  revocation_count = same_count (λ v. v.digest) no_revocation A.revocations B.revocations (λ v. (same.revocations v).0) (λ v. (same.revocations v).1) a.revocations b.revocations

  -- ## The next insertion
  paid_same : (r : Result Found Refusal) (d i p : Bytes) → payload_answer r (seen_delegation A d) d i p ≡ payload_answer r (seen_delegation B d) d i p
  unfolding accepted_answer
  paid_same (Err r) d i p = refl
  paid_same (Ok (found w t)) d i p = rw (delegation_has d, delegation_with_lem d, delegation_count, room_same (delegation_keys (delegation_from d i p w)))

  next_same : (k : Certificate) → answer_to A k ≡ answer_to B k
  unfolding answer_to delegation_check revocation_check revocation_settled
  next_same (delegation d i p) = rw (paid_same (decoded p) d i p)
  next_same (revocation d i x) = rw (revocation_has d, revocation_with_lem d, revocation_count, room_same (revocation_keys (revocation_from d i x)))

  -- ## The evaluation
  one_closure : (s : Bytes) → OneClosure A B s
  one_closure s = record {
    there = listed_in A B (λ g. (same.delegations g).0) (λ v. (same.revocations v).0) s;
    back = listed_in B A (λ g. (same.delegations g).1) (λ v. (same.revocations v).1) s;
  }

  apart : (c : Committed) → Built c → Apart c
  apart c f d e m n q = one_each (λ g. g.digest) c.delegations f.delegations m n q

  -- of the delegation with a digest that A holds
  module _ (x : Bytes) (h : has (delegation_digests A) x ≡ true) where
    it : Delegation
    it = delegation_with A x

    rests : RestsOnClosure (store A) (store B) it.subject
    unfolding it
    rests = rules.demand_3 (finite A) (one_closure it.subject).there (one_closure it.subject).back

    here : Closure (graph A) it.subject it
    unfolding it
    here = own A (delegation_with A x) (found_entry (λ g. g.digest) A.delegations x no_delegation h).0

  live_same : (x : Bytes) → has (delegation_digests A) x ≡ true → Live (graph A) (delegation_with A x) ↔ Live (graph B) (delegation_with B x)
  unfolding it
  live_same x h = subst (λ (y : Delegation). Live (graph A) (delegation_with A x) ↔ Live (graph B) y) (delegation_with_lem x) ((rests x h).live (here x h))

  conveyed_same : (x : Bytes) → has (delegation_digests A) x ≡ true → (o p : Option ℕ) → ConveyedIs (graph A) (delegation_with A x) o → ConveyedIs (graph B) (delegation_with B x) p → o ≡ p
  unfolding it
  conveyed_same x h o p = subst (λ (y : Delegation). ConveyedIs (graph A) (delegation_with A x) o → ConveyedIs (graph B) y p → o ≡ p) (delegation_with_lem x) ((rests x h).conveyed (here x h))

  standing_same : (x : Bytes) → has (delegation_digests A) x ≡ true → (o p : Standing) → StandingIs (graph A) (delegation_with A x) o → StandingIs (graph B) (delegation_with B x) p → o ≡ p
  unfolding it
  standing_same x h o p = subst (λ (y : Delegation). StandingIs (graph A) (delegation_with A x) o → StandingIs (graph B) y p → o ≡ p) (delegation_with_lem x) ((rests x h).standing (here x h))

  pub same_sets : SameSets A B
  same_sets = record {
    answers = λ s. demand_3 A B s (apart A a) (apart B b) (one_closure s);
    live = λ x r q. is_live_settled A B x (delegation_has x) (live_same x);
    conveyed = λ x r q. conveyed_power_settled A B x (delegation_has x) (conveyed_same x);
    standing = λ x r q. standing_answer_settled A B x (delegation_has x) (standing_same x);
    len = rw (delegation_count, revocation_count);
    delegations = dels (λ g. g.digest) (λ g. true);
    revocations = revs (λ v. v.digest) (λ v. true);
    subjects = dels (λ g. g.subject) (λ g. true);
    same_delegations_to = λ s x. dels (λ g. g.digest) (from_to s x);
    same_revocations_of = λ x. revs (λ v. v.digest) (names x);
    holds_delegation = delegation_has;
    delegation = delegation_with_lem;
    holds_revocation = revocation_has;
    revocation = revocation_with_lem;
    next = next_same;
  }
    where
      dels : (f : Delegation → Bytes) (p : Delegation → Bool) → listing f p A.delegations ≡ listing f p B.delegations
      dels f p = same_listing f no_delegation A.delegations B.delegations (λ g. (same.delegations g).0) (λ g. (same.delegations g).1) p

      revs : (f : Revocation → Bytes) (p : Revocation → Bool) → listing f p A.revocations ≡ listing f p B.revocations
      revs f p = same_listing f no_revocation A.revocations B.revocations (λ v. (same.revocations v).0) (λ v. (same.revocations v).1) p

-- ## States
last_held : (ks : List Certificate) (c : Committed) (k : Certificate) → held_after_all c (ks ++ (k ∷ [])) ≡ held_after (held_after_all c ks) k
unfolding held_after_all
last_held [] c k = refl
last_held (j ∷ ks) c k = last_held ks (held_after c j) k

-- what such a State holds
pub came_held : {ks : List Certificate} {s : State} → Came ks s → held_in s ≡ held_after_all nothing ks
unfolding held_after_all held_after
came_held (started e) = e
came_held (delegated {ks = ks} {s = s} d i p c n) =
    n.held
    ∙ (ap (λ (z : Result Outcome Refusal). settled z (held_in s) (delegation_added (held_in s) d i p)) n.answer
    ∙ (ap (λ (y : Committed). held_after y (delegation d i p)) (came_held c) ∙ sym (last_held ks nothing (delegation d i p))))
came_held (revoked {ks = ks} {s = s} d i x c n) =
    n.held
    ∙ (ap (λ (z : Result Outcome Refusal). settled z (held_in s) (revocation_added (held_in s) d i x)) n.answer
    ∙ (ap (λ (y : Committed). held_after y (revocation d i x)) (came_held c) ∙ sym (last_held ks nothing (revocation d i x))))

-- Two States to which the same certificates came, in any order and any number of times: where none was refused on the way to the one, none
-- was on the way to the other, and they answer every call alike.
pub states_agree : {ks ls : List Certificate} {s t : State} → Came ks s → Came ls t → Among ks ls → Among ls ks → none_refused nothing ks ≡ true
    → (none_refused nothing ls ≡ true) × SameSets (held_in s) (held_in t)
states_agree {ks} {ls} c e a b h =
    let o = any_order ks ls a b h in
    let x = (after ks nothing empty h).built in
    let y = (after ls nothing empty o.0).built in
    (o.0, rw (came_held c, came_held e) (same_sets (held_after_all nothing ks) (held_after_all nothing ls) x y o.1))
