-- Elements of what is tabulated, and of what a test leaves. Rests on PartLaws of `runs`.
use Prim.Native.Nat.{ℕ, zero, suc, ◌<◌}
use mathlib.Core.Path.{◌≡◌, refl, sym, ap}
use mathlib.Core.Bool.{Bool, true, false, cond}
use mathlib.Core.Logic.{inl, inr}
use mathlib.Core.List.Memᴰ
use mathlib.Core.List.{List, [], ◌∷◌, ◌++◌, map, Memᴰ}
use native.Mathlib.Omega.{arith}
use lib.Dec.{eqb}
use borrow.Author.Tests.{eqb-true, eqb-false}
use Rattle.runs.specs.Bytes.{Bytes}
use Rattle.runs.specs.Members.{has}
use Rattle.runs.specs.Table.{tabulate}
use Rattle.runs.proofs.MemberLaws.{mem_has, has_mem}
use Rattle.lists.specs.Lists.{filtered, Item}

module _ {A : Type 0} where
  -- ---- what is tabulated
  pub record Tabled (f : ℕ → A) (n : ℕ) (a : A) : Type 0 where
    pub at : ℕ
    pub within : at < n
    pub is : f at ≡ a

  pub in_tabled : (f : ℕ → A) (n i : ℕ) → i < n → Memᴰ (f i) (tabulate f n)
  unfolding tabulate
  in_tabled f zero i h = absurd (omega (arith, h))
  in_tabled f (suc n) i h = go (eqb i n) refl (in_tabled f n i)
    where
      go : (t : Bool) → eqb i n ≡ t → (i < n → Memᴰ (f i) (tabulate f n)) → Memᴰ (f i) (tabulate f n ++ (f n ∷ []))
      go true e k = Memᴰ.append_right (tabulate f n) (Memᴰ.head (ap f (eqb-true i n e)))
      go false e k = let m = eqb-false i n e in Memᴰ.append_left (f n ∷ []) (k (omega arith))

  pub tabled : (f : ℕ → A) (n : ℕ) {a : A} → Memᴰ a (tabulate f n) → Tabled f n a
  unfolding tabulate
  tabled f zero m = absurd (Memᴰ.not-nil m)
  tabled f (suc n) m = elim (Memᴰ.append_cases (tabulate f n) m) [
    | inl k ↦ let t = tabled f n k in let w = t.within in record { at = t.at; within = omega arith; is = t.is }
    | inr k ↦ record { at = n; within = omega arith; is = sym (Memᴰ.eq_of_singleton k) }
  ]

  -- ---- what a test leaves
  pub in_filtered : (p : A → Bool) (l : List A) {a : A} → Memᴰ a l → p a ≡ true → Memᴰ a (filtered p l)
  unfolding filtered
  in_filtered p [] m e = absurd (Memᴰ.not-nil m)
  in_filtered p (x ∷ l) {a} m e = elim (Memᴰ.cases_cons m) [
    | inl q ↦ let r : p x ≡ true = rw (← q) e in rw r (Memᴰ.head q)
    | inr k ↦ go (p x) (in_filtered p l k e)
  ]
    where
      go : (t : Bool) → Memᴰ a (filtered p l) → Memᴰ a (cond t (x ∷ filtered p l) (filtered p l))
      go true m = Memᴰ.tail m
      go false m = m

  pub filtered_in : (p : A → Bool) (l : List A) {a : A} → Memᴰ a (filtered p l) → Memᴰ a l × (p a ≡ true)
  unfolding filtered
  filtered_in p [] m = absurd (Memᴰ.not-nil m)
  filtered_in p (x ∷ l) {a} m = go (p x) refl m (filtered_in p l)
    where
      go : (t : Bool) → p x ≡ t → Memᴰ a (cond t (x ∷ filtered p l) (filtered p l)) → (Memᴰ a (filtered p l) → Memᴰ a l × (p a ≡ true)) → Memᴰ a (x ∷ l) × (p a ≡ true)
      go true e m f = elim (Memᴰ.cases_cons {b = x} {l = filtered p l} m) [ inl q ↦ (Memᴰ.head q, rw q e) | inr k ↦ (Memᴰ.tail (f k).0, (f k).1) ]
      go false e m f = (Memᴰ.tail (f m).0, (f m).1)

  -- ---- the items of a list
  pub item_has : (v : A → Bytes) (p : A → Bool) (l : List A) (x : Bytes) → Item v p l x → has (map v (filtered p l)) x ≡ true
  item_has v p l x i = rw (← i.is) (mem_has (v i.one) (map v (filtered p l)) (Memᴰ.map v (in_filtered p l i.held i.fits)))

  pub has_item : (v : A → Bytes) (p : A → Bool) (l : List A) (x : Bytes) → has (map v (filtered p l)) x ≡ true → Item v p l x
  has_item v p l x h =
      let m = Memᴰ.of_map v (filtered p l) (has_mem x (map v (filtered p l)) h) in
      let k = filtered_in p l m.1 in
      record { one = m.0; held = k.0; fits = k.1; is = m.2 }
