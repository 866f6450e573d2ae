-- Laws of lists in buffers: what is put at the front; runs one behind the other; places picked from an order; and that the runs at
-- marked places, in the table's order, are the ascending list of the marked runs. Rests on TableLaws.
use Prim.Native.Nat.{ℕ, zero, suc, ◌+◌, ◌*◌, ◌<◌, zero-le, suc-le-suc}
use mathlib.Core.Path.{◌≡◌, refl, sym, ap, ◌∙◌, subst}
use mathlib.Core.Bool.{Bool, true, false, cond}
use mathlib.Core.Logic.{inl, inr}
use mathlib.Core.List.{List, [], ◌∷◌, ◌++◌, map, append_assoc, append-nil, Memᴰ}
use native.Mathlib.Omega.{arith}
use native.Mathlib.Numerals.{add-one}
use native.Mathlib.Nat.{le_of_suc-le-suc, not-suc-le-zero}
use lib.ListN.{length, take, drop, get_or, set, length-append, length-drop}
use lib.Seq.{take-suc, take-suc-set, take-set-le, take-append_seam, drop-append_seam, drop-drop, drop-cons, get_or-drop, set_at}
use borrow.Rule.Slice.PartMut.{put_mid}
use Rattle.lent.specs.Bytes.{front}
use Rattle.rules.specs.Rules.{Ascending, done, before, Lists}
use Rattle.rules.proofs.Evaluation.Listing.{lists_same}
use Rattle.runs.specs.Bytes.{Bytes, Less, run_length, run_at, joined}
use Rattle.runs.specs.Members.{has}
use Rattle.runs.specs.Sorted.{sorted}
use Rattle.runs.specs.Table.{runs, order, GoodRuns, Below}
use Rattle.runs.specs.Chosen.{picked, Marked}
use Rattle.runs.proofs.MemberLaws.{has_mem, has_get, distinct_same}
use Rattle.runs.proofs.AscentLaws.{lt_not_both, sorted_has, sorted_lists}
use Rattle.runs.proofs.TableLaws.{ascending, runs_at, runs_long}

-- ---- at the front of a buffer
-- one byte behind what stands at the front
pub front_set : (p d : Bytes) (j v : ℕ) → length p ≡ j → j < length d → set (front p d) j v ≡ front (p ++ (v ∷ [])) d
unfolding front
front_set p d j v e h =
    let f : length (p ++ (v ∷ [])) ≡ suc j = length-append p (v ∷ []) ∙ omega arith in
    rw (e, f, drop-cons d j 0 h) (set_at p (get_or d j 0) (drop (suc j) d) v j e ∙ sym (append_assoc p (v ∷ []) (drop (suc j) d)))

-- a part lent from the middle, behind what stands at the front
pub front_mid : (p o out y : Bytes) (a k : ℕ) → length p ≡ a → length y ≡ k → out ≡ front p o → put_mid a k out y ≡ front (p ++ y) o
unfolding front
front_mid p o out y a k ha hk e =
    rw (e, ← ha, ← hk, take-append_seam, drop-append_seam, drop-drop, length-append) (sym (append_assoc p y (drop (length p + length y) o)))

-- ---- runs, one behind the other
pub joined_none : joined [] ≡ []
unfolding joined
joined_none = refl

pub joined_snoc : (l : List Bytes) (b : Bytes) → joined (l ++ (b ∷ [])) ≡ joined l ++ b
unfolding joined
joined_snoc [] b = append-nil b
joined_snoc (x ∷ l) b = ap (λ (m : Bytes). x ++ m) (joined_snoc l b) ∙ sym (append_assoc x (joined l) b)

pub joined_long : (l : List Bytes) → ((j : ℕ) → j < length l → length (get_or l j []) ≡ run_length) → length (joined l) ≡ run_length * length l
unfolding joined
joined_long [] f = refl
joined_long (x ∷ l) f =
    let a = joined_long l (λ j h. f (suc j) (suc-le-suc h)) in
    let b : length x ≡ run_length = f 0 (suc-le-suc zero-le) in
    simp length-append (omega arith)

-- ---- the first places
module _ {A B : Type 0} (v : A → B) where
  pub map_more : (l : List A) (j : ℕ) (z : A) → j < length l → map v (take (j + 1) l) ≡ map v (take j l) ++ (v (get_or l j z) ∷ [])
  map_more [] j z h = absurd (not-suc-le-zero h)
  map_more (x ∷ l) zero z h = refl
  map_more (x ∷ l) (suc j) z h = let e : suc j + 1 ≡ suc (j + 1) = omega arith in rw e (ap (λ m. v x ∷ m) (map_more l j z (le_of_suc-le-suc h)))

-- ---- picked places
pub picked_snoc : (on : List Bool) (l : List ℕ) (i : ℕ) → picked on (l ++ (i ∷ [])) ≡ picked on l ++ cond (get_or on i false) (i ∷ []) []
unfolding picked
picked_snoc on [] i = go (get_or on i false)
  where
    go : (t : Bool) → cond t (i ∷ []) [] ≡ [] ++ cond t (i ∷ []) []
    go true = refl
    go false = refl
picked_snoc on (x ∷ l) i = go (get_or on x false) (picked_snoc on l i)
  where
    go : (t : Bool) → picked on (l ++ (i ∷ [])) ≡ picked on l ++ cond (get_or on i false) (i ∷ []) []
        → cond t (x ∷ picked on (l ++ (i ∷ []))) (picked on (l ++ (i ∷ []))) ≡ cond t (x ∷ picked on l) (picked on l) ++ cond (get_or on i false) (i ∷ []) []
    go true e = ap (λ (m : List ℕ). x ∷ m) e
    go false e = e

pub order_more : (limit : ℕ) (t : Bytes) (j : ℕ) → run_length * limit + j < length t → order limit t (j + 1) ≡ order limit t j ++ (get_or t (run_length * limit + j) 0 ∷ [])
unfolding order
order_more limit t j h =
    rw (add-one j, take-suc (drop (run_length * limit) t) j 0 (simp length-drop (omega arith))) (rw (get_or-drop (run_length * limit) t j 0))

-- a place noted behind k others, and counted where it is marked
pub noted : (l : List ℕ) (k b : ℕ) (t : Bool) → k < length l → take (k + cond t 1 0) (set l k b) ≡ take k l ++ cond t (b ∷ []) []
noted l k b true h = rw (add-one k) (take-suc-set l k b h)
noted l k b false h = let e : k + 0 ≡ k = omega arith in rw e (take-set-le k l k b (omega arith) ∙ sym (append-nil (take k l)))

-- ---- the runs at marked places, in the table's order
pub picked_in : (on : List Bool) (l : List ℕ) {i : ℕ} → Memᴰ i (picked on l) → Memᴰ i l × (get_or on i false ≡ true)
unfolding picked
picked_in on [] m = absurd (mathlib.Core.List.Memᴰ.not-nil m)
picked_in on (k ∷ l) {i} m = go (get_or on k false) refl m (picked_in on l)
  where
    go : (u : Bool) → get_or on k false ≡ u → Memᴰ i (cond u (k ∷ picked on l) (picked on l)) → (Memᴰ i (picked on l) → Memᴰ i l × (get_or on i false ≡ true))
        → Memᴰ i (k ∷ l) × (get_or on i false ≡ true)
    go true e m f = elim (mathlib.Core.List.Memᴰ.cases_cons {b = k} {l = picked on l} m) [ inl p ↦ (mathlib.Core.List.Memᴰ.head p, rw p e) | inr q ↦ (mathlib.Core.List.Memᴰ.tail (f q).0, (f q).1) ]
    go false e m f = (mathlib.Core.List.Memᴰ.tail (f m).0, (f m).1)

pub in_picked : (on : List Bool) (l : List ℕ) {i : ℕ} → Memᴰ i l → get_or on i false ≡ true → Memᴰ i (picked on l)
unfolding picked
in_picked on [] m o = absurd (mathlib.Core.List.Memᴰ.not-nil m)
in_picked on (k ∷ l) {i} m o = elim (mathlib.Core.List.Memᴰ.cases_cons m) [
  | inl p ↦ let q : get_or on k false ≡ true = rw (← p) o in rw q (mathlib.Core.List.Memᴰ.head p)
  | inr n ↦ go (get_or on k false) (in_picked on l n o)
]
  where
    go : (u : Bool) → Memᴰ i (picked on l) → Memᴰ i (cond u (k ∷ picked on l) (picked on l))
    go true m = mathlib.Core.List.Memᴰ.tail m
    go false m = m

below_in : (m : ℕ) (l : List ℕ) {i : ℕ} → Below m l → Memᴰ i l → i < m
below_in m [] f q = absurd (mathlib.Core.List.Memᴰ.not-nil q)
below_in m (k ∷ l) f q = elim (mathlib.Core.List.Memᴰ.cases_cons q) [
  | inl p ↦ rw p (f 0 (suc-le-suc zero-le))
  | inr r ↦ below_in m l (λ j h. f (suc j) (suc-le-suc h)) r
]

picked_ascending : (on : List Bool) (v : ℕ → Bytes) (l : List ℕ) → Ascending Less (map v l) → Ascending Less (map v (picked on l))
unfolding picked
picked_ascending on v [] done = done
picked_ascending on v (i ∷ l) (before b a) = go (get_or on i false) (picked_ascending on v l a)
  where
    go : (u : Bool) → Ascending Less (map v (picked on l)) → Ascending Less (map v (cond u (i ∷ picked on l) (picked on l)))
    go true a =
        before {x = v i} {xs = map v (picked on l)}
        (λ y m. let w = mathlib.Core.List.Memᴰ.of_map v (picked on l) m in b y (subst (λ (z : Bytes). Memᴰ z (map v l)) w.2 (mathlib.Core.List.Memᴰ.map v (picked_in on l w.1).0))) a
    go false a = a

module _ (limit : ℕ) (t : Bytes) (n : ℕ) (g : GoodRuns limit t n) (on : List Bool) where
  pub order_below : {i : ℕ} → Memᴰ i (order limit t n) → i < n
  order_below m = below_in n (order limit t n) g.placed m

  pub chosen_lists : Lists Less (Marked on t n) (map (run_at t) (picked on (order limit t n)))
  chosen_lists = record {
    ascending = picked_ascending on (run_at t) (order limit t n) (rw g.ascends (ascending limit t n g));
    sound = λ x m.
        let w = mathlib.Core.List.Memᴰ.of_map (run_at t) (picked on (order limit t n)) m in
        let p = picked_in on (order limit t n) w.1 in
        record { place = w.0; within = below_in n (order limit t n) g.placed p.0; chosen = p.1; is = w.2 };
    complete = λ x m.
        let l = runs_long limit t n g in
        let h : has (runs t n) x ≡ true = rw (← m.is, ← runs_at limit t n g m.place m.within) (has_get (runs t n) m.place (let q = m.within in omega arith)) in
        let k : Memᴰ x (map (run_at t) (order limit t n)) = rw g.ascends (has_mem x (sorted (runs t n)) (sorted_has (runs t n) x ∙ h)) in
        let w = mathlib.Core.List.Memᴰ.of_map (run_at t) (order limit t n) k in
        let b = below_in n (order limit t n) g.placed w.1 in
        let a = m.within in
        let e : w.0 ≡ m.place =
        distinct_same (runs t n) g.apart w.0 m.place (omega arith) (omega arith) (runs_at limit t n g w.0 b ∙ w.2 ∙ sym m.is ∙ sym (runs_at limit t n g m.place a)) in
        subst (λ (z : Bytes). Memᴰ z (map (run_at t) (picked on (order limit t n)))) w.2 (mathlib.Core.List.Memᴰ.map (run_at t) (in_picked on (order limit t n) w.1 (rw e m.chosen)));
  }

  -- so they are the sorted list of any runs that are just the marked ones
  pub chosen_sorted : (l : List Bytes) → ((x : Bytes) → Marked on t n x → has l x ≡ true) → ((x : Bytes) → has l x ≡ true → Marked on t n x)
      → map (run_at t) (picked on (order limit t n)) ≡ sorted l
  chosen_sorted l f b = lists_same lt_not_both f b chosen_lists (sorted_lists l)
