-- A test for each fact of the specimens, which computes; where it passes, the fact is right (`tested`, `passed`).
-- Idea: the plain evaluator's answer is right (Answers), so a fact is right if it says that answer. Answers are compared as numbers: by
-- their fields (`agree`), or by a code that can be read back (`read_back`).
use Prim.Native.Nat.{ℕ, zero, suc}
use mathlib.Core.Bool.{Bool, true, false, not, ◌&&◌, false≢true}
use mathlib.Core.List.{List, [], ◌∷◌, Memᴰ}
use mathlib.Core.Option.{Option, none, some}
use mathlib.Core.Path.{◌≡◌, refl, sym, ◌∙◌, ap, subst}
use borrow.Author.Tests.{eqb-true}
use lib.Dec.{eqb}
use Rattle.rules.specs.Rules.{done, Lists, Excluded, Closure, ClosureRev, Standing, live, revoked, unsupported, StandingIs, PositiveIs, EffectiveIs, ConveyedIs, MembersAre}
use Rattle.rules.specs.Rows.{level_of}
use Rattle.rules.specs.Numbered.{Del, Rev, Holding, store, world, Lower, Less, Cert, delegation, revocation, add, adding, inserted, insert}
use Rattle.rules.specs.Facts.{Fact, positive, effective, conveyed, capped, alive, dead, standing, excluding, closure, members, Right, Case, Specimen, Holds}
use Rattle.rules.proofs.Plain.Evaluate.{agree, same, flagged, cap_in, Eval, evaluate, positive_of, effective_of, members_of, held_of, excluded_of, live_of, conveyed_of, standing_of, closure_of, closure_revs_of}
use Rattle.rules.proofs.Plain.Says.{says_true, both, neither, says}
use Rattle.rules.proofs.Plain.Lists.{says_agree, insert_ascending}
use Rattle.rules.proofs.Plain.Coverage.{says_same, says_held}
use Rattle.rules.proofs.Plain.Answers.{Sorted, positive_right, caps_right, effective_right, excluded_right, live_right, live_covered_right, conveyed_right, standing_right, closure_right, closure_revs_right, members_right}

-- ## Equal answers
read_back : {A : Type 0} (code : A → ℕ) (back : ℕ → A) → ((a : A) → back (code a) ≡ a) → (a b : A) → eqb (code a) (code b) ≡ true → a ≡ b
read_back code back r a b e = sym (r a) ∙ ap back (eqb-true (code a) (code b) e) ∙ r b

-- a level as the byte of a row
unfoldable pub byte_of : Option ℕ → ℕ
byte_of none = 0
byte_of (some l) = suc l

option_same : (o p : Option ℕ) → eqb (byte_of o) (byte_of p) ≡ true → o ≡ p
unfolding byte_of level_of
option_same = read_back byte_of level_of back
  where
    back : (o : Option ℕ) → level_of (byte_of o) ≡ o
    back none = refl
    back (some l) = refl

unfoldable pub number_of : Standing → ℕ
number_of live = 0
number_of revoked = 1
number_of unsupported = 2

standing_same : (o p : Standing) → eqb (number_of o) (number_of p) ≡ true → o ≡ p
unfolding number_of
standing_same = read_back number_of numbered back
  where
    numbered : ℕ → Standing
    numbered zero = live
    numbered (suc zero) = revoked
    numbered (suc (suc n)) = unsupported

    back : (t : Standing) → numbered (number_of t) ≡ t
    back live = refl
    back revoked = refl
    back unsupported = refl

abbrev pair : List (ℕ × ℕ → ℕ)
pair = (λ p. p.0) ∷ (λ p. p.1) ∷ []

pair_same : (p q : ℕ × ℕ) → agree pair p q ≡ true → p ≡ q
pair_same p q e = let h = says_true (says_agree pair p q) e in λ i. (h.0 i, h.1.0 i)

abbrev rev : List (Rev → ℕ)
rev = (λ v. v.digest) ∷ (λ v. v.issuer) ∷ (λ v. v.target) ∷ []

rev_same : (v w : Rev) → agree rev v w ≡ true → v ≡ w
rev_same v w e = let h = says_true (says_agree rev v w) e in λ i. record { digest = h.0 i; issuer = h.1.0 i; target = h.1.1.0 i }

del_same : (d e : Del) → same d e ≡ true → d ≡ e
del_same d e = says_true (says_same d e)

both_true : (a b : Bool) → (a && b) ≡ true → (a ≡ true) × (b ≡ true)
both_true a b = says_true (both (says a) (says b))

unfoldable pub same_list : {A : Type 0} → (A → A → Bool) → List A → List A → Bool
same_list q [] [] = true
same_list q [] (y ∷ ys) = false
same_list q (x ∷ xs) [] = false
same_list q (x ∷ xs) (y ∷ ys) = q x y && same_list q xs ys

list_same : {A : Type 0} (q : A → A → Bool) → ((x y : A) → q x y ≡ true → x ≡ y) → (xs ys : List A) → same_list q xs ys ≡ true → xs ≡ ys
unfolding same_list
list_same q f [] [] e = refl
list_same q f [] (y ∷ ys) e = absurd (false≢true e)
list_same q f (x ∷ xs) [] e = absurd (false≢true e)
list_same q f (x ∷ xs) (y ∷ ys) e = let h = both_true (q x y) (same_list q xs ys) e in λ i. f x y h.0 i ∷ list_same q f xs ys h.1 i

-- ## Facts
-- e is what the store S evaluates to.
unfoldable pub test : (S : Holding) → Eval → Fact → Bool
test S e (positive s x o) = eqb (byte_of (positive_of S e s x)) (byte_of o)
test S e (effective s x o) = eqb (byte_of (effective_of S e s x)) (byte_of o)
test S e (conveyed d o) = eqb (byte_of (conveyed_of S e d)) (byte_of o)
test S e (capped d l) = held_of S e d && (flagged e.flags d && eqb (cap_in S e.keys e.positive e.caps d) l)
test S e (alive d) = live_of S e d
test S e (dead d) = not (live_of S e d)
test S e (standing d t) = held_of S e d && eqb (number_of (standing_of S e d)) (number_of t)
test S e (excluding d ns) = same_list eqb (excluded_of S e d) ns
test S e (closure s ds vs) = same_list same (closure_of S e s) ds && same_list (agree rev) (closure_revs_of S e s) vs
test S e (members s ms) = same_list (agree pair) (members_of S e s) ms

module _ (S : Holding) (o : Sorted S) where
  held : (d : Del) → held_of S (evaluate S) d ≡ true → Memᴰ d S.dels
  unfolding held_of
  held d e = says_true (says_held d S.dels) e

  pub tested : (f : Fact) → test S (evaluate S) f ≡ true → Right S f
  unfolding test
  tested (positive s x p) e = subst (PositiveIs (world S) s x) (option_same _ p e) (positive_right S o s x)
  tested (effective s x p) e = subst (EffectiveIs (world S) s x) (option_same _ p e) (effective_right S o s x)
  tested (conveyed d p) e = subst (ConveyedIs (world S) d) (option_same _ p e) (conveyed_right S o d)
  tested (capped d l) e =
      let h = both_true (held_of S (evaluate S) d) _ e in
      let k = both_true (flagged (evaluate S).flags d) _ h.1 in
      record { lives = says_true (live_covered_right S o d (held d h.0)) k.0; κ = _; caps = caps_right S o; level = eqb-true _ l k.1 }
  tested (alive d) e = says_true (live_right S o d) e
  tested (dead d) e = says_true (neither (live_right S o d)) e
  tested (standing d t) e =
      let h = both_true (held_of S (evaluate S) d) _ e in
      subst (StandingIs (world S) d) (standing_same _ t h.1) (standing_right S o d (held d h.0))
  tested (excluding d ns) e = subst (Lists Less (Excluded (world S) d)) (list_same eqb eqb-true _ ns e) (excluded_right S o d)
  tested (closure s ds vs) e =
      let h = both_true (same_list same (closure_of S (evaluate S) s) ds) _ e in (
        subst (Lists (Lower (λ d. d.digest)) (Closure (world S) s)) (list_same same del_same _ ds h.0) (closure_right S o s),
        subst (Lists (Lower (λ v. v.digest)) (ClosureRev (store S) s)) (list_same (agree rev) rev_same _ vs h.1) (closure_revs_right S o s),
      )
  tested (members s ms) e = subst (MembersAre (world S) Less s) (list_same (agree pair) pair_same _ ms e) (members_right S o s)

-- ## Specimens
pub inserted_sorted : (cs : List Cert) → Sorted (inserted cs)
unfolding inserted add adding
inserted_sorted cs = go cs (record { dels = done; revs = done })
  where
    go : {S : Holding} (cs : List Cert) → Sorted S → Sorted (adding S cs)
    go [] o = o
    go {S = S} (delegation d ∷ cs) o = go {S = record { dels = insert (λ d. d.digest) d S.dels; revs = S.revs }} cs (record { dels = insert_ascending (λ d. d.digest) d o.dels; revs = o.revs })
    go {S = S} (revocation v ∷ cs) o = go {S = record { dels = S.dels; revs = insert (λ v. v.digest) v S.revs }} cs (record { dels = o.dels; revs = insert_ascending (λ v. v.digest) v o.revs })

unfoldable pub every : {A : Type 0} → (A → Bool) → List A → Bool
every p [] = true
every p (x ∷ xs) = p x && every p xs

every_at : {A : Type 0} (p : A → Bool) {x : A} {xs : List A} → every p xs ≡ true → Memᴰ x xs → p x ≡ true
unfolding every
every_at p e (Memᴰ.head {x = y} {xs = ys} q) = ap p q ∙ (both_true (p y) (every p ys) e).0
every_at p e (Memᴰ.tail {x = y} {xs = ys} m) = every_at p (both_true (p y) (every p ys) e).1 m

unfoldable pub passes : Case → Bool
passes c = let S = inserted c.certs in let e = evaluate S in every (test S e) c.facts

unfoldable pub passing : Specimen → Bool
passing s = every passes s.cases

pub passed : (ss : List Specimen) → every passing ss ≡ true → (s : Specimen) → Memᴰ s ss → Holds s
unfolding passing passes
passed ss e s m c n f k = let S = inserted c.certs in
    tested S (inserted_sorted c.certs) f (every_at (test S (evaluate S)) (every_at passes (every_at passing e m) n) k)
