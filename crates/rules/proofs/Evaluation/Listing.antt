-- A list is settled by what it lists and by its order: two lists of the same things in the same order are equal (`lists_same`).
-- So each list that a call hands out is the only one that its contract allows.
use mathlib.Core.List.Memᴰ
use mathlib.Core.List.{List, ◌∷◌, Memᴰ}
use mathlib.Core.Logic.{◌⊎◌, inl, inr, ⊎_elim, ⊎_map}
use mathlib.Core.Path.{◌≡◌, refl, sym}
use Rattle.rules.specs.Rules.{Ascending, done, before, Lists}

module _ {A : Type 0} {L : A → A → Type 0} (not-both : (x y : A) → L x y → ¬ L y x) where
  -- The first of a list is less than whatever else is in it ..
  first_least : {x y : A} {ys : List A} → ((z : A) → Memᴰ z ys → L y z) → Memᴰ x (y ∷ ys) → (x ≡ y) ⊎ L y x
  first_least {x} b m = ⊎_map (λ p. p) (b x) (Memᴰ.cases_cons m)

  -- .. so of two lists that begin alike, what comes later in the one comes later in the other.
  later : {x y z : A} {ys : List A} → x ≡ y → L x z → Memᴰ z (y ∷ ys) → Memᴰ z ys
  later {x} e l m = elim (Memᴰ.cases_cons m) [ inl q ↦ let k : L x x = rw (q, ← e) at l in absurd (not-both x x k k) | inr n ↦ n ]

  pub same_members : {xs ys : List A} → Ascending L xs → Ascending L ys
      → ((z : A) → Memᴰ z xs → Memᴰ z ys) → ((z : A) → Memᴰ z ys → Memᴰ z xs) → xs ≡ ys
  same_members done done f g = refl
  same_members done (before b t) f g = absurd (Memᴰ.not-nil (g _ (Memᴰ.head refl)))
  same_members (before a s) done f g = absurd (Memᴰ.not-nil (f _ (Memᴰ.head refl)))
  same_members (before {x} a s) (before {x = y} b t) f g =
      let e : x ≡ y = ⊎_elim (λ p. p) (λ k. ⊎_elim sym (λ l. absurd (not-both x y l k)) (first_least a (g y (Memᴰ.head refl))))
      (first_least b (f x (Memᴰ.head refl))) in
      rw (e, same_members s t (λ z m. later e (a z m) (f z (Memᴰ.tail m))) (λ z m. later (sym e) (b z m) (g z (Memᴰ.tail m))))

  pub lists_same : {P Q : A → Type 0} {xs ys : List A} → ((x : A) → P x → Q x) → ((x : A) → Q x → P x) → Lists L P xs → Lists L Q ys → xs ≡ ys
  lists_same f g p q = same_members p.ascending q.ascending
      (λ z m. q.complete z (f z (p.sound z m))) (λ z m. p.complete z (g z (q.sound z m)))

-- A list of what is P is one of what is Q, where the same are P and Q.
pub lists_carry : {A : Type 0} {L : A → A → Type 0} {P Q : A → Type 0} {xs : List A} → ((x : A) → P x → Q x) → ((x : A) → Q x → P x)
    → Lists L P xs → Lists L Q xs
lists_carry f g p = record { ascending = p.ascending; sound = λ x m. f x (p.sound x m); complete = λ x q. p.complete x (g x q) }
