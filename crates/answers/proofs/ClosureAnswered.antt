-- From chosen places to the statement of a call that lists: the closure (`closure_answer`) and, in MembersAnswered, the members.
use Prim.Native.Nat.{ℕ, ◌+◌, ◌*◌, ◌<◌}
use mathlib.Core.Path.{◌≡◌, refl, sym, ◌∙◌, ap, subst}
use mathlib.Core.Bool.{Bool, true, false, cond}
use mathlib.Core.List.{List, [], ◌∷◌, map, ◌++◌}
use borrow.Author.Tests.{eqb-true, eq-eqb, ltb-true, ltb-false, lt-ltb}
use lib.ListN.{length, get_or, length-map}
use lib.Dec.{ltb}
use Rattle.rules.specs.Rules.{Node}
use Rattle.keyset.specs.Word.{bit}
use Rattle.lent.specs.Bytes.{front}
use Rattle.keyline.specs.Limits.{key_length, digest_length, delegation_limit, revocation_limit}
use Rattle.keyline.specs.declared.refusal.Refusal.TheVariants.{SmallBuffer}
use Rattle.runs.specs.Bytes.{Bytes, run_at, run_length, joined}
use Rattle.runs.specs.Table.{order}
use Rattle.runs.specs.Chosen.{picked, Chose}
use Rattle.runs.specs.declared.list.Chosen.{Chosen}
use Rattle.runs.proofs.BoolLaws.{both_true}
use Rattle.search.specs.Sets.{Word}
use Rattle.tables.specs.Committed.{Delegation, Revocation, Committed}
use Rattle.store.specs.Store.{committed, GoodStore}
use Rattle.store.specs.declared.Store.{Store}
use Rattle.lists.specs.Lists.{both_answer, both_buffer}
use Rattle.lists.specs.Marks.{chosen_runs}
use Rattle.coverage.specs.Places.{places}
use Rattle.coverage.specs.declared.Facts.{Facts}
use Rattle.answers.specs.Facts.{FactsOf}
use Rattle.answers.specs.Marks.{InNodes, Naming}
use Rattle.answers.specs.Answers as says
use Rattle.answers.specs.Answers.{ClosureIs, ClosureAnswer, digests, rev_digests}
use Rattle.answers.proofs.Places.{delegation_of}
use Rattle.answers.proofs.Closures.{closure_is, revocation_of}
use Rattle.lists.specs.declared.write.Counts.{Counts}
use Rattle.keyline.specs.declared.refusal.Refusal.{Refusal}
use Rattle.std.specs.Prelude.{Result, Ok, Err}

-- ## The answer of two lists is the closure's, where the lists are
module _ (c : Committed) (key out : Bytes) (ds : List Delegation) (vs : List Revocation) (long : length key ≡ key_length) (is : ClosureIs c key ds vs) where
  abbrev need : ℕ
  need = digest_length * length ds + digest_length * length vs

  answer : ℕ → ℕ → Result Counts Refusal
  answer x y = cond (ltb (length out) (run_length * x + run_length * y)) (Err (SmallBuffer (run_length * x + run_length * y))) (Ok (record { delegations = x; revocations = y }))

  answer_is : both_answer (digests ds) (rev_digests vs) (length out) ≡ answer (length ds) (length vs)
  unfolding both_answer answer
  answer_is = ap (λ x. answer x (length (rev_digests vs))) (length-map ds (λ d. d.digest)) ∙ ap (λ y. answer (length ds) y) (length-map vs (λ v. v.digest))

  pub both_closure : {r : Result Counts Refusal} {o : Bytes} → r ≡ both_answer (digests ds) (rev_digests vs) (length out)
      → o ≡ both_buffer r (digests ds) (rev_digests vs) out → ClosureAnswer c key out r o
  unfolding answer
  both_closure {r} {o} e b = go (ltb (length out) need) refl
    where
      go : (t : Bool) → ltb (length out) need ≡ t → ClosureAnswer c key out r o
      go true u =
          let p : r ≡ Err (SmallBuffer need) = e ∙ (answer_is ∙ ap (λ (t : Bool). cond t (Err (SmallBuffer need)) (Ok (record { delegations = length ds; revocations = length vs }))) u) in
          let q : o ≡ out = b ∙ ap (λ z. both_buffer z (digests ds) (rev_digests vs) out) p in
          subst (λ z. ClosureAnswer c key out z o) (sym p) (subst (λ y. ClosureAnswer c key out (Err (SmallBuffer need)) y) (sym q)
          (says.room long is (ltb-true (length out) need u)))
      go false u =
          let p : r ≡ Ok (record { delegations = length ds; revocations = length vs }) = e ∙ (answer_is ∙ ap (λ (t : Bool). cond t (Err (SmallBuffer need)) (Ok (record { delegations = length ds; revocations = length vs }))) u) in
          let q : o ≡ front (joined (digests ds) ++ joined (rev_digests vs)) out = b ∙ ap (λ z. both_buffer z (digests ds) (rev_digests vs) out) p in
          subst (λ z. ClosureAnswer c key out z o) (sym p) (subst (λ y. ClosureAnswer c key out (Ok (record { delegations = length ds; revocations = length vs })) y) (sym q)
          (says.answered long is (ltb-false (length out) need u)))

-- ## The chosen places
module _ (s : Store) (g : GoodStore s) (e : Facts) (f : FactsOf s e) (i : ℕ) (h : i < s.keys.count) (nodes : ℕ) (word : Word nodes (Node (places e) i))
    (dels revs : List Bool) (in-dels : InNodes s.delegations.subject s.delegations.count nodes dels)
    (in-revs : Naming e.target s.revocations.count dels s.delegations.count revs) (a b : Chosen)
    (ca : Chose (picked dels (order delegation_limit s.delegations.digests s.delegations.count)) a)
    (cb : Chose (picked revs (order revocation_limit s.revocations.digests s.revocations.count)) b) where
  dels_yes : (d : ℕ) → d < s.delegations.count → get_or dels d false ≡ true → bit nodes (get_or s.delegations.subject d 0) ≡ 1
  dels_yes d p o = eqb-true (bit nodes (get_or s.delegations.subject d 0)) 1 (sym (in-dels.are d p) ∙ o)

  dels_no : (d : ℕ) → d < s.delegations.count → bit nodes (get_or s.delegations.subject d 0) ≡ 1 → get_or dels d false ≡ true
  dels_no d p o = in-dels.are d p ∙ eq-eqb (bit nodes (get_or s.delegations.subject d 0)) 1 o

  revs_yes : (j : ℕ) → j < s.revocations.count → get_or revs j false ≡ true → (get_or e.target j 0 < s.delegations.count) × (get_or dels (get_or e.target j 0) false ≡ true)
  revs_yes j p o =
      let q = both_true (ltb (get_or e.target j 0) s.delegations.count) (get_or dels (get_or e.target j 0) false) (sym (in-revs.are j p) ∙ o) in
      (ltb-true (get_or e.target j 0) s.delegations.count q.0, q.1)

  revs_no : (j : ℕ) → j < s.revocations.count → get_or e.target j 0 < s.delegations.count → get_or dels (get_or e.target j 0) false ≡ true → get_or revs j false ≡ true
  revs_no j p l o =
      in-revs.are j p
      ∙ (ap (λ (t : Bool). cond t (get_or dels (get_or e.target j 0) false) false) (lt-ltb (get_or e.target j 0) s.delegations.count l) ∙ o)

  abbrev held : List Delegation
  held = map (delegation_of s g e f) (picked dels (order delegation_limit s.delegations.digests s.delegations.count))

  abbrev revoking : List Revocation
  revoking = map (revocation_of s g e f i h nodes word.has word.only dels dels_yes dels_no revs revs_yes revs_no) (picked revs (order revocation_limit s.revocations.digests s.revocations.count))

  lists_are : ClosureIs (committed s) (run_at s.keys.table i) held revoking
  lists_are = closure_is s g e f i h nodes word.has word.only dels dels_yes dels_no revs revs_yes revs_no

  del_runs : chosen_runs s.delegations.digests a ≡ digests held
  del_runs = ap (λ (l : List ℕ). map (run_at s.delegations.digests) l) ca.places ∙ same (picked dels (order delegation_limit s.delegations.digests s.delegations.count))
    where
      same : (l : List ℕ) → map (run_at s.delegations.digests) l ≡ digests (map (delegation_of s g e f) l)
      same [] = refl
      same (x ∷ l) = ap (λ (m : List Bytes). run_at s.delegations.digests x ∷ m) (same l)

  rev_runs : chosen_runs s.revocations.digests b ≡ rev_digests revoking
  rev_runs = ap (λ (l : List ℕ). map (run_at s.revocations.digests) l) cb.places ∙ same (picked revs (order revocation_limit s.revocations.digests s.revocations.count))
    where
      same : (l : List ℕ) → map (run_at s.revocations.digests) l ≡ rev_digests (map (revocation_of s g e f i h nodes word.has word.only dels dels_yes dels_no revs revs_yes revs_no) l)
      same [] = refl
      same (x ∷ l) = ap (λ (m : List Bytes). run_at s.revocations.digests x ∷ m) (same l)

  pub closure_answer : {key out o : Bytes} {r : Result Counts Refusal} → length key ≡ key_length → run_at s.keys.table i ≡ key
      → r ≡ both_answer (chosen_runs s.delegations.digests a) (chosen_runs s.revocations.digests b) (length out)
      → o ≡ both_buffer r (chosen_runs s.delegations.digests a) (chosen_runs s.revocations.digests b) out
      → ClosureAnswer (committed s) key out r o
  closure_answer {key} {out} {o} {r} long q e k =
      let is = subst (λ y. ClosureIs (committed s) y held revoking) q lists_are in
      both_closure (committed s) key out held revoking long is (rw (← del_runs) (rw (← rev_runs) e)) (rw (← del_runs) (rw (← rev_runs) k))
