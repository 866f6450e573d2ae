-- Laws of parts: what is tabulated; bytes put into others; the run at a place and the order behind the runs after a put. Rests on ByteLaws.
use Prim.Native.Nat.{ℕ, zero, suc, ◌+◌, ◌-◌, ◌*◌, ◌≤◌, ◌<◌}
use mathlib.Core.Path.{◌≡◌, refl, sym, ap, ◌∙◌}
use mathlib.Core.Bool.{Bool, true, false}
use mathlib.Core.List.{List, [], ◌∷◌, ◌++◌, map, map-append, append_assoc}
use native.Mathlib.Omega.{arith}
use native.Mathlib.Numerals.{add-one}
use native.Mathlib.Nat.{le_of_suc-le-suc, not-suc-le-zero}
use lib.ListN.{length, take, drop, get_or, set, length-append, length-take, length-drop, get_or-append}
use lib.Seq.{length-take-le, take-add, take_at, drop_at, take-append-le, drop-append-le, drop-drop, take-take, get_or-take, get_or-drop, get_or_at, take-suc, set_at}
use lib.Dec.{eqb}
use borrow.Author.Tests.{eqb-true, eqb-false}
use Rattle.lent.specs.Bytes.{put}
use Rattle.runs.specs.Bytes.{Bytes, run_length, run_at}
use Rattle.runs.specs.Table.{tabulate, order}

-- ---- what is tabulated
module _ {A : Type 0} where
  pub tabulate_snoc : (f : ℕ → A) (n : ℕ) → tabulate f (n + 1) ≡ tabulate f n ++ (f n ∷ [])
  unfolding tabulate
  tabulate_snoc f n = rw (add-one n)

  pub tabulate_long : (f : ℕ → A) (n : ℕ) → length (tabulate f n) ≡ n
  unfolding tabulate
  tabulate_long f zero = refl
  tabulate_long f (suc n) = let e = tabulate_long f n in simp length-append (omega arith)

  pub tabulate_at : (f : ℕ → A) (n : ℕ) (d : A) (i : ℕ) → i < n → get_or (tabulate f n) i d ≡ f i
  unfolding tabulate
  tabulate_at f zero d i h = absurd (not-suc-le-zero h)
  tabulate_at f (suc n) d i h = go (eqb i n) refl (tabulate_at f n d i)
    where
      go : (t : Bool) → eqb i n ≡ t → (i < n → get_or (tabulate f n) i d ≡ f i) → get_or (tabulate f n ++ (f n ∷ [])) i d ≡ f i
      go true e k = let p = eqb-true i n e in rw p (get_or_at (tabulate f n) (f n) [] d n (tabulate_long f n))
      go false e k =
          let p = eqb-false i n e in
          let q = tabulate_long f n in
          get_or-append (tabulate f n) (f n ∷ []) d i (omega arith) ∙ k (omega arith)

  pub tabulate_same : (f g : ℕ → A) (n : ℕ) → ((i : ℕ) → i < n → f i ≡ g i) → tabulate f n ≡ tabulate g n
  unfolding tabulate
  tabulate_same f g zero h = refl
  tabulate_same f g (suc n) h = rw (tabulate_same f g n (λ i p. h i (omega arith)), h n (omega arith))

  pub tabulate_map : {B : Type 0} (v : A → B) (f : ℕ → A) (n : ℕ) → map v (tabulate f n) ≡ tabulate (λ i. v (f i)) n
  unfolding tabulate
  tabulate_map v f zero = refl
  tabulate_map v f (suc n) = map-append v (tabulate f n) (f n ∷ []) ∙ rw (tabulate_map v f n)

  pub map_at : {B : Type 0} (v : A → B) (l : List A) (i : ℕ) (d : A) (e : B) → i < length l → get_or (map v l) i e ≡ v (get_or l i d)
  map_at v [] i d e h = absurd (not-suc-le-zero h)
  map_at v (x ∷ l) zero d e h = refl
  map_at v (x ∷ l) (suc i) d e h = map_at v l i d e (le_of_suc-le-suc h)

  pub map_same : {B : Type 0} (v w : A → B) (l : List A) (d : A) → ((i : ℕ) → i < length l → v (get_or l i d) ≡ w (get_or l i d)) → map v l ≡ map w l
  map_same v w [] d h = refl
  map_same v w (x ∷ l) d h =
      let p : v x ≡ w x = h 0 (omega arith) in
      let q : map v l ≡ map w l = map_same v w l d (λ i r. h (suc i) (omega arith)) in cc

  pub map_take : {B : Type 0} (v : A → B) (k : ℕ) (l : List A) → map v (take k l) ≡ take k (map v l)
  map_take v zero l = refl
  map_take v (suc k) [] = refl
  map_take v (suc k) (x ∷ l) = let e = map_take v k l in cc

  pub map_drop : {B : Type 0} (v : A → B) (k : ℕ) (l : List A) → map v (drop k l) ≡ drop k (map v l)
  map_drop v zero l = refl
  map_drop v (suc k) [] = refl
  map_drop v (suc k) (x ∷ l) = map_drop v k l

  -- a part of the front, and the front of a part
  pub part_swap : (k m : ℕ) (l : List A) → k ≤ length l → drop k (take (k + m) l) ≡ take m (drop k l)
  part_swap k m l h = rw (take-add k m l) (drop_at (take k l) (take m (drop k l)) k (length-take-le k l h))

  -- what holds of each element holds with one more at k
  pub each_at : (P : A → Type 0) (z : A) (k : ℕ) (l : List A) (b : A) → ((j : ℕ) → j < length l → P (get_or l j z)) → P b
      → (j : ℕ) → j < length (take k l ++ (b ∷ drop k l)) → P (get_or (take k l ++ (b ∷ drop k l)) j z)
  each_at P z zero l b f q zero r = q
  each_at P z zero l b f q (suc j) r = f j (le_of_suc-le-suc r)
  each_at P z (suc k) [] b f q zero r = q
  each_at P z (suc k) [] b f q (suc j) r = absurd (not-suc-le-zero (le_of_suc-le-suc r))
  each_at P z (suc k) (x ∷ l) b f q zero r = f 0 (omega arith)
  each_at P z (suc k) (x ∷ l) b f q (suc j) r = each_at P z k l b (λ i s. f (suc i) (omega arith)) q j (le_of_suc-le-suc r)

-- ---- bytes put into others
pub put_is : (t : Bytes) (at : ℕ) (x : Bytes) → put t at x ≡ take at t ++ (x ++ drop (at + length x) t)
unfolding put
put_is t at x = append_assoc (take at t) x (drop (at + length x) t)

module _ (t : Bytes) (at : ℕ) (x : Bytes) (fits : at + length x ≤ length t) where
  front_long : length (take at t) ≡ at
  front_long = length-take-le at t (omega arith)

  pub length_put : length (put t at x) ≡ length t
  length_put = rw (put_is t at x) (simp (length-append, length-drop, length-take-le at t (omega arith)) (omega arith))

  pub take_put : (k : ℕ) → k ≤ at → take k (put t at x) ≡ take k t
  take_put k h =
      let e = front_long in
      rw (put_is t at x) (take-append-le k (take at t) (x ++ drop (at + length x) t) (omega arith) ∙ take-take k at t h)

  drop_seam : drop (at + length x) (put t at x) ≡ drop (at + length x) t
  unfolding put
  drop_seam = drop_at (take at t ++ x) (drop (at + length x) t) (at + length x) (length-append (take at t) x ∙ rw front_long)

  pub drop_put : (k : ℕ) → at + length x ≤ k → drop k (put t at x) ≡ drop k t
  drop_put k h =
      let m = k - (at + length x) in
      let e : at + length x + m ≡ k = omega arith in
      ap (λ (j : ℕ). drop j (put t at x)) (sym e) ∙ sym (drop-drop m (at + length x) (put t at x))
      ∙ ap (λ (l : Bytes). drop m l) drop_seam ∙ drop-drop m (at + length x) t ∙ ap (λ (j : ℕ). drop j t) e

  -- a run before it stays
  pub run_before : (i : ℕ) → run_length * i + run_length ≤ at → run_at (put t at x) i ≡ run_at t i
  unfolding run_at
  run_before i h =
      let e = length_put in
      sym (part_swap (run_length * i) run_length (put t at x) (omega arith))
      ∙ rw (take_put (run_length * i + run_length) h) (part_swap (run_length * i) run_length t (omega arith))

-- and a run that is put stands at its place
pub run_here : (t : Bytes) (i : ℕ) (x : Bytes) → run_length * i + run_length ≤ length t → length x ≡ run_length → run_at (put t (run_length * i) x) i ≡ x
unfolding run_at
run_here t i x h e =
    let rest = drop (run_length * i + length x) t in
    let a : drop (run_length * i) (put t (run_length * i) x) ≡ x ++ rest =
    ap (λ (l : Bytes). drop (run_length * i) l) (put_is t (run_length * i) x) ∙ drop_at (take (run_length * i) t) (x ++ rest) (run_length * i) (length-take-le (run_length * i) t (omega arith)) in
    ap (λ (l : Bytes). take run_length l) a ∙ take_at x rest run_length e

-- one byte more in front of what was put
pub set_put : (b y : Bytes) (i v : ℕ) → i + 1 + length y ≤ length b → set (put b (i + 1) y) i v ≡ put b i (v ∷ y)
set_put b y i v h =
    let q = y ++ drop (i + 1 + length y) b in
    let x = get_or b i 0 in
    let a : take (i + 1) b ≡ take i b ++ (x ∷ []) = rw (add-one i) (take-suc b i 0 (omega arith)) in
    let e : put b (i + 1) y ≡ take i b ++ (x ∷ q) = put_is b (i + 1) y ∙ rw a (append_assoc (take i b) (x ∷ []) q) in
    let f : i + suc (length y) ≡ i + 1 + length y = omega arith in
    ap (λ (l : Bytes). set l i v) e ∙ set_at (take i b) x q v i (length-take-le i b (omega arith)) ∙ sym (put_is b i (v ∷ y) ∙ rw f)

-- ---- the order behind the room for runs
module _ (limit : ℕ) (t : Bytes) (n : ℕ) (long : length t ≡ run_length * limit + limit) (room : n ≤ limit) where
  pub order_long : length (order limit t n) ≡ n
  unfolding order
  order_long = length-take-le n (drop (run_length * limit) t) (simp length-drop (omega arith))

  pub order_at : (j : ℕ) → j < n → get_or (order limit t n) j 0 ≡ get_or t (run_length * limit + j) 0
  unfolding order
  order_at j h = get_or-take n (drop (run_length * limit) t) j 0 h ∙ get_or-drop (run_length * limit) t j 0

-- a place put into the order at p, the rest moved up
module _ (limit : ℕ) (t : Bytes) (n p v : ℕ) (long : length t ≡ run_length * limit + limit) (room : n < limit) (within : p ≤ n) where
  abbrev moved : Bytes
  moved = v ∷ take (n - p) (drop (run_length * limit + p) t)

  pub moved_long : length moved ≡ n - p + 1
  moved_long =
      let e : length (take (n - p) (drop (run_length * limit + p) t)) ≡ n - p = length-take-le (n - p) (drop (run_length * limit + p) t) (simp length-drop (omega arith)) in
      omega arith

  pub order_moved : order limit (put t (run_length * limit + p) moved) (n + 1) ≡ take p (order limit t n) ++ (v ∷ drop p (order limit t n))
  unfolding order
  order_moved =
      let o = run_length * limit in
      let d = drop o t in
      let rest = drop (o + p + length moved) t in
      let l : length d ≡ limit = simp length-drop (omega arith) in
      let a : drop o (take (o + p) t) ≡ take p d = part_swap o p t (omega arith) in
      let b : drop o (take (o + p) t ++ (moved ++ rest)) ≡ take p d ++ (moved ++ rest) =
      drop-append-le o (take (o + p) t) (moved ++ rest) (simp length-take (omega arith)) ∙ rw a in
      let m = moved_long in
      let k : length (take p d ++ moved) ≡ n + 1 = length-append (take p d) moved ∙ rw (length-take-le p d (omega arith)) (omega arith) in
      let c : take (n + 1) (take p d ++ (moved ++ rest)) ≡ take p d ++ moved = rw (← append_assoc (take p d) moved rest) (take_at (take p d ++ moved) rest (n + 1) k) in
      let q : p + (n - p) ≡ n = omega arith in
      let e : take (n - p) (drop (o + p) t) ≡ drop p (take n d) = ap (λ (z : Bytes). take (n - p) z) (sym (drop-drop p o t)) ∙ sym (part_swap p (n - p) d (omega arith)) ∙ rw q in
      let f : take p (take n d) ≡ take p d = take-take p n d within in
      ap (λ (z : Bytes). take (n + 1) (drop o z)) (put_is t (o + p) moved) ∙ ap (λ (z : Bytes). take (n + 1) z) b ∙ c ∙ rw (e, f)
