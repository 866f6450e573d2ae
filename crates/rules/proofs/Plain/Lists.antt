-- What the list functions of the plain evaluator do. `keep` has exactly what passes its test, in order (`keep_exactly`, `keep_lists`);
-- a table answers by what was tabulated under the key (`look_tab`); insertion keeps a list ascending (`insert_ascending`); and where no
-- value falls and the total does not rise, no value rises (`total_tight`).
-- Idea: `keep` and `insert` are described once by how their result comes about (`Kept`, `Put`), and every fact is read off that.
use Prim.Native.Nat.{ℕ, ◌≤◌, ◌<◌}
use mathlib.Core.Bool.{Bool, true, false, cond}
use mathlib.Core.List.Memᴰ
use mathlib.Core.List.{List, [], ◌∷◌, Memᴰ}
use mathlib.Core.Logic.{◌⊎◌, inl, inr}
use mathlib.Core.Path.{◌≡◌, refl, sym, ◌∙◌, ap, subst}
use lib.Dec.{eqb}
use native.Mathlib.Omega.{arith}
use Rattle.rules.specs.Rules.{Ascending, done, before, Lists}
use Rattle.rules.specs.Numbered.{insert, Lower}
use Rattle.rules.proofs.Plain.Evaluate.{any, keep, best, total, agree, mem, ascend, tab, look}
use Rattle.rules.proofs.Plain.Says.{Says, holds, fails, told, says_true, true_says, alike, both, either, says, says_eq, says_lt}

-- ## Tests of lists
-- some member of xs is P
pub record Some {A : Type 0} (P : A → Type 0) (xs : List A) : Type 0 where
  pub one : A
  pub mem : Memᴰ one xs
  pub is : P one

pub says_any : {A : Type 0} {P : A → Type 0} {p : A → Bool} (xs : List A) → ((x : A) → Memᴰ x xs → Says (P x) (p x))
    → Says (Some P xs) (any p xs)
unfolding any
says_any [] f = fails (λ s. Memᴰ.not-nil s.mem)
says_any {P = P} (x ∷ xs) f = alike there back (either (f x (Memᴰ.head refl)) (says_any xs (λ y m. f y (Memᴰ.tail m))))
  where
    there : P x ⊎ Some P xs → Some P (x ∷ xs)
    there (inl p) = record { one = x; mem = Memᴰ.head refl; is = p }
    there (inr s) = record { one = s.one; mem = Memᴰ.tail s.mem; is = s.is }

    back : Some P (x ∷ xs) → P x ⊎ Some P xs
    back s = elim (Memᴰ.cases_cons s.mem) [ inl e ↦ inl (subst P e s.is) | inr m ↦ inr (record { one = s.one; mem = m; is = s.is }) ]

pub says_mem : (n : ℕ) (xs : List ℕ) → Says (Memᴰ n xs) (mem n xs)
unfolding mem
says_mem n xs = alike (λ s. Memᴰ.cast s.is s.mem) (λ m. record { one = n; mem = m; is = refl }) (says_any xs (λ x m. says_eq n x))

-- all of the fields agree
abbrev pub Agree : {A : Type 0} → List (A → ℕ) → A → A → Type 0
Agree [] x y = Unit {0}
Agree (f ∷ fs) x y = (f x ≡ f y) × Agree fs x y

pub says_agree : {A : Type 0} (fs : List (A → ℕ)) (x y : A) → Says (Agree fs x y) (agree fs x y)
unfolding agree
says_agree [] x y = holds tt
says_agree (f ∷ fs) x y = both (says_eq (f x) (f y)) (says_agree fs x y)

-- ## What is kept
-- xs has all that are P and nothing else.
pub record Exactly {A : Type 0} (P : A → Type 0) (xs : List A) : Type 0 where
  pub sound : (x : A) → Memᴰ x xs → P x
  pub complete : (x : A) → P x → Memᴰ x xs

pub exactly : {A : Type 0} {L : A → A → Type 0} {P : A → Type 0} {xs : List A} → Lists L P xs → Exactly P xs
exactly h = record { sound = h.sound; complete = h.complete }

-- A list has exactly its members.
pub members : {A : Type 0} {xs : List A} → Exactly (λ x. Memᴰ x xs) xs
members = record { sound = λ x m. m; complete = λ x m. m }

pub listed : {A : Type 0} {L : A → A → Type 0} {xs : List A} → Ascending L xs → Lists L (λ x. Memᴰ x xs) xs
listed s = record { ascending = s; sound = λ x m. m; complete = λ x m. m }

module _ {A : Type 0} (p : A → Bool) where
  -- How a list comes to be kept.
  data Kept : List A → List A → Type 0 where
    end : Kept [] []
    taken : {x : A} {xs ys : List A} → p x ≡ true → Kept xs ys → Kept (x ∷ xs) (x ∷ ys)
    passed : {x : A} {xs ys : List A} → ¬ (p x ≡ true) → Kept xs ys → Kept (x ∷ xs) ys

  kept : (xs : List A) → Kept xs (keep p xs)
  unfolding keep
  kept [] = end
  kept (x ∷ xs) = let r = keep p xs in told (λ b. Kept (x ∷ xs) (cond b (x ∷ r) r)) (says (p x)) (λ e. taken e (kept xs)) (λ n. passed n (kept xs))

module _ {A : Type 0} {p : A → Bool} where
  kept_out : {x : A} {xs ys : List A} → Kept p xs ys → Memᴰ x ys → Memᴰ x xs × (p x ≡ true)
  kept_out end m = elim m [ ]
  kept_out (taken e k) (Memᴰ.head q) = (Memᴰ.head q, rw q e)
  kept_out (taken e k) (Memᴰ.tail m) = let h = kept_out k m in (Memᴰ.tail h.0, h.1)
  kept_out (passed n k) m = let h = kept_out k m in (Memᴰ.tail h.0, h.1)

  kept_in : {x : A} {xs ys : List A} → Kept p xs ys → Memᴰ x xs → p x ≡ true → Memᴰ x ys
  kept_in end m t = elim m [ ]
  kept_in (taken e k) (Memᴰ.head q) t = Memᴰ.head q
  kept_in (taken e k) (Memᴰ.tail m) t = Memᴰ.tail (kept_in k m t)
  kept_in (passed n k) (Memᴰ.head q) t = absurd (n (ap p (sym q) ∙ t))
  kept_in (passed n k) (Memᴰ.tail m) t = kept_in k m t

  kept_ascending : {L : A → A → Type 0} {xs ys : List A} → Kept p xs ys → Ascending L xs → Ascending L ys
  kept_ascending end done = done
  kept_ascending (taken e k) (before a s) = before (λ z m. a z (kept_out k m).0) (kept_ascending k s)
  kept_ascending (passed n k) (before a s) = kept_ascending k s

-- Of what is P, what passes a test of Q.
module _ {A : Type 0} {P Q : A → Type 0} {p : A → Bool} (test : (x : A) → P x → Says (Q x) (p x)) (among : (x : A) → Q x → P x) where
  pub keep_exactly : {xs : List A} → Exactly P xs → Exactly Q (keep p xs)
  keep_exactly {xs} h = record {
    sound = λ x m. let k = kept_out (kept p xs) m in says_true (test x (h.sound x k.0)) k.1;
    complete = λ x q. kept_in (kept p xs) (h.complete x (among x q)) (true_says (test x (among x q)) q);
  }

  pub keep_lists : {L : A → A → Type 0} {xs : List A} → Lists L P xs → Lists L Q (keep p xs)
  keep_lists {xs = xs} h = let e = keep_exactly (exactly h) in
      record { ascending = kept_ascending (kept p xs) h.ascending; sound = e.sound; complete = e.complete }

-- ## Values
-- The best is no lower than any.
pub best_most : {A : Type 0} (f : A → ℕ) {x : A} {xs : List A} → Memᴰ x xs → f x ≤ best f xs
unfolding best
best_most f (Memᴰ.head e) = rw e (omega arith)
best_most f (Memᴰ.tail m) = let h = best_most f m in omega arith

module _ {A : Type 0} (f g : A → ℕ) where
  -- Where no value falls, the total does not; and if it does not rise either, no value does.
  pub total_le : (xs : List A) → ((x : A) → Memᴰ x xs → f x ≤ g x) → total f xs ≤ total g xs
  unfolding total
  total_le [] h = omega arith
  total_le (x ∷ xs) h = omega (arith, h x (Memᴰ.head refl), total_le xs (λ y m. h y (Memᴰ.tail m)))

  pub total_tight : {x : A} (xs : List A) → ((x : A) → Memᴰ x xs → f x ≤ g x) → total g xs ≤ total f xs → Memᴰ x xs → g x ≤ f x
  unfolding total
  total_tight [] h t m = elim m [ ]
  total_tight (y ∷ ys) h t (Memᴰ.head e) = rw e (omega (arith, total_le ys (λ z m. h z (Memᴰ.tail m))))
  total_tight (y ∷ ys) h t (Memᴰ.tail m) = total_tight ys (λ z m. h z (Memᴰ.tail m)) (omega (arith, h y (Memᴰ.head refl))) m

-- ## Tables
-- What a table has at n is P if each value under that key is, and the default where there is none.
pub look_tab : {A B : Type 0} (k : A → ℕ) (f : A → B) (P : B → Type 0) (xs : List A) (n : ℕ) (b : B)
    → (((y : A) → Memᴰ y xs → ¬ (k y ≡ n)) → P b) → ((y : A) → Memᴰ y xs → k y ≡ n → P (f y)) → P (look (tab k f xs) n b)
unfolding look tab
look_tab k f P [] n b z s = z (λ y m. absurd (Memᴰ.not-nil m))
look_tab k f P (x ∷ xs) n b z s = told (λ t. P (cond t (f x) (look (tab k f xs) n b))) (says_eq (k x) n) (s x (Memᴰ.head refl))
    (λ ne. look_tab k f P xs n b (λ g. z (λ y m e. elim (Memᴰ.cases_cons m) [ inl q ↦ ne (ap k (sym q) ∙ e) | inr m ↦ g y m e ]))
    (λ y m. s y (Memᴰ.tail m)))

-- ## Ascending lists
module _ {A : Type 0} (k : A → ℕ) where
  -- How x comes to stand in a list.
  data Put (x : A) : List A → List A → Type 0 where
    last : Put x [] (x ∷ [])
    here : {y : A} {ys : List A} → k x < k y → Put x (y ∷ ys) (x ∷ y ∷ ys)
    stands : {y : A} {ys : List A} → k x ≡ k y → Put x (y ∷ ys) (y ∷ ys)
    later : {y : A} {ys zs : List A} → k y < k x → Put x ys zs → Put x (y ∷ ys) (y ∷ zs)

  put : (x : A) (ys : List A) → Put x ys (insert k x ys)
  unfolding insert
  put x [] = last
  put x (y ∷ ys) =
      let rest : Bool → List A = λ t. elim t [ true ↦ y ∷ ys | false ↦ y ∷ insert k x ys ] in
      told (λ s. Put x (y ∷ ys) (elim s as (λ s. List A) [ true ↦ x ∷ y ∷ ys | false ↦ rest (eqb (k x) (k y)) ])) (says_lt (k x) (k y)) here
      (λ n. told (λ t. Put x (y ∷ ys) (rest t)) (says_eq (k x) (k y)) stands (λ ne. later (omega arith) (put x ys)))

module _ {A : Type 0} {k : A → ℕ} {x : A} where
  put_in : {ys zs : List A} → Put k x ys zs → Some (λ z. k x ≡ k z) zs
  put_in last = record { one = x; mem = Memᴰ.head refl; is = refl }
  put_in (here l) = record { one = x; mem = Memᴰ.head refl; is = refl }
  put_in (stands {y} e) = record { one = y; mem = Memᴰ.head refl; is = e }
  put_in (later l p) = let s = put_in p in record { one = s.one; mem = Memᴰ.tail s.mem; is = s.is }

  put_keeps : {z : A} {ys zs : List A} → Put k x ys zs → Memᴰ z ys → Memᴰ z zs
  put_keeps last m = elim m [ ]
  put_keeps (here l) m = Memᴰ.tail m
  put_keeps (stands e) m = m
  put_keeps (later l p) (Memᴰ.head e) = Memᴰ.head e
  put_keeps (later l p) (Memᴰ.tail m) = Memᴰ.tail (put_keeps p m)

  put_out : {z : A} {ys zs : List A} → Put k x ys zs → Memᴰ z zs → (z ≡ x) ⊎ Memᴰ z ys
  put_out last m = Memᴰ.cases_cons m
  put_out (here l) m = Memᴰ.cases_cons m
  put_out (stands e) m = inr m
  put_out (later l p) (Memᴰ.head e) = inr (Memᴰ.head e)
  put_out (later l p) (Memᴰ.tail m) = elim (put_out p m) [ inl e ↦ inl e | inr n ↦ inr (Memᴰ.tail n) ]

  put_ascending : {ys zs : List A} → Put k x ys zs → Ascending (Lower k) ys → Ascending (Lower k) zs
  put_ascending last done = before (λ y m. absurd (Memᴰ.not-nil m)) done
  put_ascending (here {y} {ys} l) (before a s) =
      before {x = x} (λ z m. elim (Memᴰ.cases_cons {b = y} {l = ys} m) [ inl e ↦ rw e l | inr n ↦ omega (arith, a z n) ]) (before a s)
  put_ascending (stands e) s = s
  put_ascending (later {y} l p) (before a s) = before {x = y} (λ z m. elim (put_out p m) [ inl e ↦ rw e l | inr n ↦ a z n ]) (put_ascending p s)

module _ {A : Type 0} (k : A → ℕ) where
  pub insert_ascending : (x : A) {ys : List A} → Ascending (Lower k) ys → Ascending (Lower k) (insert k x ys)
  insert_ascending x {ys} s = put_ascending (put k x ys) s

  -- In an ascending list one key has one place.
  pub ascending_one : {xs : List A} → Ascending (Lower k) xs → {x y : A} → Memᴰ x xs → Memᴰ y xs → k x ≡ k y → x ≡ y
  ascending_one done m n e = elim m [ ]
  ascending_one (before a s) (Memᴰ.head p) (Memᴰ.head q) e = p ∙ sym q
  ascending_one (before a s) {y = y} (Memᴰ.head p) (Memᴰ.tail n) e = absurd (omega (arith, a y n, ap k p))
  ascending_one (before a s) {x} (Memᴰ.tail m) (Memᴰ.head q) e = absurd (omega (arith, a x m, ap k q))
  ascending_one (before a s) (Memᴰ.tail m) (Memᴰ.tail n) e = ascending_one s m n e

-- A list of keys put in order.
pub ascend_in : {x : ℕ} {xs : List ℕ} → Memᴰ x xs → Memᴰ x (ascend xs)
unfolding ascend
ascend_in (Memᴰ.head {x = y} {xs = ys} e) = let s = put_in (put (λ x. x) y (ascend ys)) in Memᴰ.cast (e ∙ s.is) s.mem
ascend_in (Memᴰ.tail {x = y} {xs = ys} m) = put_keeps (put (λ x. x) y (ascend ys)) (ascend_in m)

pub ascend_ascending : (xs : List ℕ) → Ascending (Lower (λ x. x)) (ascend xs)
unfolding ascend
ascend_ascending [] = done
ascend_ascending (x ∷ xs) = insert_ascending (λ x. x) x (ascend_ascending xs)
