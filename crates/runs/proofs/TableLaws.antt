-- Laws of a table of runs: what stands at its places and in its order, a search, and one run more. Rests on PartLaws and SpotLaws.
use Prim.Native.Nat.{ℕ, ◌+◌, ◌-◌, ◌*◌, ◌≤◌, ◌<◌}
use mathlib.Core.Path.{◌≡◌, refl, sym, ap, ◌∙◌}
use mathlib.Core.Bool.{Bool, true, false}
use mathlib.Core.List.{List, [], ◌∷◌, ◌++◌, map, map-append}
use native.Mathlib.Omega.{arith}
use lib.ListN.{length, take, drop, get_or, length-map, length-append, get_or-append}
use lib.Seq.{get_or_at}
use lib.Dec.{ltb}
use borrow.Author.Tests.{lt-ltb, le-ltb}
use Rattle.lent.specs.Bytes.{put}
use Rattle.rules.specs.Rules.{Ascending, done}
use Rattle.runs.specs.Bytes.{Bytes, Less, run_length, run_at, eq_bytes, lt_bytes}
use Rattle.runs.specs.Members.{place, has, fresh}
use Rattle.runs.specs.Sorted.{sorted_into, sorted, spot}
use Rattle.runs.specs.Table.{tabulate, runs, order, GoodRuns, Room, Pushed, Internable, InternedAs}
use Rattle.runs.proofs.ByteLaws.{eq_same, length_run}
use Rattle.runs.proofs.MemberLaws.{get_or_place, has_within, has_not, within_has, end_not, distinct_snoc}
use Rattle.runs.proofs.FreshLaws.{fresh_one, fresh_new}
use Rattle.runs.proofs.AscentLaws.{into_ascending, sorted_has}
use Rattle.runs.proofs.SpotLaws.{spot_le, spot_above, spot_below, spot_held, inserted_spot, sorted_snoc}
use Rattle.runs.proofs.PartLaws.{tabulate_snoc, tabulate_long, tabulate_at, tabulate_same, map_at, map_same, map_take, map_drop, each_at, length_put, drop_put, run_before, run_here, order_long, order_at, moved_long, order_moved}

-- ---- an empty table
pub none_good : (limit : ℕ) (t : Bytes) → length t ≡ run_length * limit + limit → GoodRuns limit t 0
unfolding tabulate order sorted_into
none_good limit t l = record { room = omega arith; long = l; apart = λ i h. absurd (omega (arith, h)); placed = λ j h. absurd (omega (arith, h)); ascends = refl }

module _ (limit : ℕ) (t : Bytes) (n : ℕ) (g : GoodRuns limit t n) where
  -- ---- places
  pub runs_long : length (runs t n) ≡ n
  runs_long = tabulate_long (run_at t) n

  pub runs_at : (i : ℕ) → i < n → get_or (runs t n) i [] ≡ run_at t i
  runs_at i h = tabulate_at (run_at t) n [] i h

  pub run_fits : (i : ℕ) → i < n → run_length * i + run_length ≤ length t
  run_fits i h = let r = g.room in let l = g.long in omega arith

  pub run_long : (i : ℕ) → i < n → length (run_at t i) ≡ run_length
  run_long i h = length_run t i (run_fits i h)

  -- ---- the order
  pub place_below : (j : ℕ) → j < n → get_or t (run_length * limit + j) 0 < n
  place_below j h = let l = order_long limit t n g.long g.room in rw (← order_at limit t n g.long g.room j h) (g.placed j (omega arith))

  pub ascending : Ascending Less (sorted (runs t n))
  ascending = into_ascending [] (runs t n) done

  pub sorted_long : length (sorted (runs t n)) ≡ n
  sorted_long = ap (λ (l : List Bytes). length l) (sym g.ascends) ∙ length-map (order limit t n) (run_at t) ∙ order_long limit t n g.long g.room

  pub sorted_at : (j : ℕ) → j < n → get_or (sorted (runs t n)) j [] ≡ run_at t (get_or t (run_length * limit + j) 0)
  sorted_at j h =
      let l = order_long limit t n g.long g.room in
      ap (λ (l : List Bytes). get_or l j []) (sym g.ascends) ∙ map_at (run_at t) (order limit t n) j 0 [] (omega arith) ∙ ap (λ (i : ℕ). run_at t i) (order_at limit t n g.long g.room j h)

  -- ---- a search
  -- the run whose place stands at j in the order
  module _ (j : ℕ) (h : j < n) (i : ℕ) (e : i ≡ get_or t (run_length * limit + j) 0) where
    pub there_below : i < n
    there_below = rw e (place_below j h)

    pub there_fits : run_length * i + run_length ≤ length t
    there_fits = run_fits i there_below

    is_there : get_or (sorted (runs t n)) j [] ≡ run_at t i
    is_there = sorted_at j h ∙ ap (λ (k : ℕ). run_at t k) (sym e)

    pub there_above : (x : Bytes) → lt_bytes (run_at t i) x ≡ true → j < spot x (sorted (runs t n))
    there_above x q = let l = sorted_long in spot_above x (sorted (runs t n)) ascending j (omega arith) (rw is_there q)

    pub there_not : (x : Bytes) → lt_bytes (run_at t i) x ≡ false → spot x (sorted (runs t n)) ≤ j
    there_not x q = let l = sorted_long in spot_below x (sorted (runs t n)) j (omega arith) (rw is_there q)

  pub spot_within : (x : Bytes) → spot x (sorted (runs t n)) ≤ n
  spot_within x = let l = sorted_long in let p = spot_le x (sorted (runs t n)) in omega arith

  pub found_at : (x : Bytes) (i : ℕ) → i < n → run_at t i ≡ x → i ≡ place (runs t n) x
  found_at x i h e =
      let l = runs_long in
      sym (g.apart i (omega arith)) ∙ ap (λ (b : Bytes). place (runs t n) b) (runs_at i h ∙ e)

  pub not_found : (x : Bytes) → has (runs t n) x ≡ false → n ≡ place (runs t n) x
  not_found x h = sym (has_not (runs t n) x h ∙ runs_long)

  -- what does not stand at its spot is not there
  pub not_at_spot : (x : Bytes) → (spot x (sorted (runs t n)) < n → eq_bytes (run_at t (get_or t (run_length * limit + spot x (sorted (runs t n))) 0)) x ≡ false) → has (runs t n) x ≡ false
  not_at_spot x f = go (has (runs t n) x) refl
    where
      go : (u : Bool) → has (runs t n) x ≡ u → u ≡ false
      go false e = refl
      go true e =
          let p = spot_held x (sorted (runs t n)) ascending (sorted_has (runs t n) x ∙ e) in
          let l = sorted_long in
          let h : spot x (sorted (runs t n)) < n = omega (arith, p.0) in
          sym (eq_same _ x (sym (sorted_at (spot x (sorted (runs t n))) h) ∙ p.1)) ∙ f h

  pub has_place : (x : Bytes) → ltb (place (runs t n) x) n ≡ has (runs t n) x
  has_place x = go (has (runs t n) x) refl
    where
      go : (u : Bool) → has (runs t n) x ≡ u → ltb (place (runs t n) x) n ≡ u
      go true e = let l = runs_long in let h = has_within (runs t n) x e in lt-ltb (place (runs t n) x) n (omega arith)
      go false e = let h = not_found x e in le-ltb (place (runs t n) x) n (omega arith)

-- ---- one run more
module _ (limit : ℕ) (t : Bytes) (n p : ℕ) (x : Bytes) (r : Room limit t n x) (at : p ≡ spot x (sorted (runs t n))) where
  abbrev shifted : Bytes
  shifted = put t (run_length * limit + p) (n ∷ take (n - p) (drop (run_length * limit + p) t))

  p_le : p ≤ n
  p_le = rw at (spot_within limit t n r.good x)

  seg_long : length (n ∷ take (n - p) (drop (run_length * limit + p) t)) ≡ n - p + 1
  seg_long = moved_long limit t n p n r.good.long r.space p_le

  seg_fits : run_length * limit + p + length (n ∷ take (n - p) (drop (run_length * limit + p) t)) ≤ length t
  seg_fits = let a = seg_long in let b = p_le in let l = r.good.long in let s = r.space in omega arith

  pub shifted_long : length shifted ≡ length t
  shifted_long = length_put t (run_length * limit + p) (n ∷ take (n - p) (drop (run_length * limit + p) t)) seg_fits

  abbrev pushed : Bytes
  pushed = put shifted (run_length * n) x

  run_room : run_length * n + length x ≤ length shifted
  run_room = let a = shifted_long in let l = r.good.long in let s = r.space in let f = r.fits in omega arith

  pushed_before : (i : ℕ) → i < n → run_at pushed i ≡ run_at t i
  pushed_before i h =
      let s = r.space in
      run_before shifted (run_length * n) x run_room i (omega arith)
      ∙ run_before t (run_length * limit + p) (n ∷ take (n - p) (drop (run_length * limit + p) t)) seg_fits i (omega arith)

  pushed_here : run_at pushed n ≡ x
  pushed_here = let a = run_room in let f = r.fits in run_here shifted n x (omega arith) f

  pushed_runs : runs pushed (n + 1) ≡ runs t n ++ (x ∷ [])
  pushed_runs = tabulate_snoc (run_at pushed) n ∙ rw (tabulate_same (run_at pushed) (run_at t) n pushed_before, pushed_here)

  pushed_long : length pushed ≡ length t
  pushed_long = length_put shifted (run_length * n) x run_room ∙ shifted_long

  pushed_order : order limit pushed (n + 1) ≡ take p (order limit t n) ++ (n ∷ drop p (order limit t n))
  unfolding order
  pushed_order =
      let s = r.space in
      let f = r.fits in
      let a : drop (run_length * limit) pushed ≡ drop (run_length * limit) shifted = drop_put shifted (run_length * n) x run_room (run_length * limit) (omega arith) in
      ap (λ (l : Bytes). take (n + 1) l) a ∙ order_moved limit t n p n r.good.long s p_le

  same_runs : map (run_at pushed) (order limit t n) ≡ sorted (runs t n)
  same_runs =
      map_same (run_at pushed) (run_at t) (order limit t n) 0 (λ i h. pushed_before (get_or (order limit t n) i 0) (r.good.placed i h)) ∙ r.good.ascends

  pub push_law : Pushed limit t pushed n x
  push_law = record {
    good = record {
      room = let s = r.space in omega arith;
      long = pushed_long ∙ r.good.long;
      apart = rw pushed_runs (distinct_snoc (runs t n) x r.good.apart (has_not (runs t n) x r.new));
      placed = rw pushed_order (each_at (λ i. i < n + 1) 0 p (order limit t n) n (λ j h. let q = r.good.placed j h in omega arith) (omega arith));
      ascends =
          rw (pushed_order, pushed_runs)
          (map-append (run_at pushed) (take p (order limit t n)) (n ∷ drop p (order limit t n))
          ∙ rw (map_take (run_at pushed) p (order limit t n), map_drop (run_at pushed) p (order limit t n), same_runs, pushed_here)
          (rw at (sym (inserted_spot x (sorted (runs t n)) (sorted_has (runs t n) x ∙ r.new)) ∙ sym (sorted_snoc (runs t n) x))));
    };
    held = pushed_runs;
  }

-- ---- a run that is put where it is not held yet
fresh_space : (l : List Bytes) (x : Bytes) (n limit : ℕ) → has l x ≡ false → n + length (fresh l (x ∷ [])) ≤ limit → n < limit
unfolding fresh
fresh_space l x n limit e h = let k : n + 1 ≤ limit = rw e at h in omega arith

module _ (limit : ℕ) (t : Bytes) (n : ℕ) (x : Bytes) (r : Internable limit t n x) where
  pub held_law : (i : ℕ) → i ≡ place (runs t n) x → i < n → InternedAs limit t t n x (record { place = i; count = n })
  held_law i e h =
      let g = r.good in
      let l = runs_long limit t n g in
      let w : has (runs t n) x ≡ true = within_has (runs t n) x (omega arith) in
      record {
        good = g;
        held = sym (fresh_one (runs t n) x w);
        within = h;
        is = sym (runs_at limit t n g i h) ∙ rw e (get_or_place (runs t n) x [] (omega arith));
      }

  pub room_law : n ≤ place (runs t n) x → Room limit t n x
  room_law h =
      let g = r.good in
      let l = runs_long limit t n g in
      let w : has (runs t n) x ≡ false = end_not (runs t n) x (omega arith) in
      let s = r.space in
      record { good = g; few = r.few; space = fresh_space (runs t n) x n limit w s; fits = r.fits; new = w }

  pub new_law : (u : Bytes) → Room limit t n x → Pushed limit t u n x → InternedAs limit t u n x (record { place = n; count = n + 1 })
  new_law u m p = record {
    good = p.good;
    held = p.held ∙ sym (fresh_new (runs t n) x m.new);
    within = omega arith;
    is =
        let l = runs_long limit t n r.good in
        sym (runs_at limit u (n + 1) p.good n (omega arith)) ∙ rw p.held (get_or_at (runs t n) x [] [] n l);
  }

-- ---- what stood in a table stands in one that has more
pub kept_at : (t u : Bytes) (n m : ℕ) (l : List Bytes) → runs u m ≡ runs t n ++ l → (i : ℕ) → i < n → run_at u i ≡ run_at t i
kept_at t u n m l e i h =
    let a = tabulate_long (run_at t) n in
    let b = tabulate_long (run_at u) m in
    let c : m ≡ n + length l = sym b ∙ ap (λ (k : List Bytes). length k) e ∙ length-append (runs t n) l ∙ rw a in
    sym (tabulate_at (run_at u) m [] i (omega arith)) ∙ rw e (get_or-append (runs t n) l [] i (omega arith) ∙ tabulate_at (run_at t) n [] i h)
