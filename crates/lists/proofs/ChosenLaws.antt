-- A list that is chosen by marks is the list that is asked for: by marks on the rows themselves, or on the keys that a column names.
-- Rests on MarkLaws, FilterLaws and the laws of runs.
use Prim.Native.Nat.{ℕ, zero, suc, ◌≤◌, ◌<◌, zero-le, suc-le-suc}
use mathlib.Core.Path.{◌≡◌, refl, sym, ap, ◌∙◌}
use mathlib.Core.Bool.{Bool, true, false, cond}
use mathlib.Core.List.{List, [], ◌∷◌, map}
use native.Mathlib.Omega.{arith}
use native.Mathlib.Nat.{le_of_suc-le-suc}
use lib.ListN.{length, take, get_or}
use lib.Seq.{get_or-take}
use lib.Dec.{eqb}
use borrow.Author.Tests.{eq-eqb, ne_eqb}
use Rattle.runs.specs.Bytes.{Bytes, run_at, eq_bytes}
use Rattle.runs.specs.Members.{place}
use Rattle.runs.specs.Table.{large_limit, tabulate, runs, order, Below, GoodRuns}
use Rattle.runs.specs.Chosen.{picked, Chose}
use Rattle.runs.specs.declared.list.Chosen.{Chosen}
use Rattle.runs.proofs.ByteLaws.{eq_true, eq_same}
use Rattle.runs.proofs.PartLaws.{order_long}
use Rattle.runs.proofs.TableLaws.{run_fits, found_at, runs_at, runs_long}
use Rattle.runs.proofs.MemberLaws.{get_or_place}
use Rattle.runs.proofs.ListLaws.{chosen_sorted}
use Rattle.lists.specs.Lists.{filtered, listing, all}
use Rattle.lists.specs.Marks.{among, chosen_runs, Stand}
use Rattle.lists.proofs.MarkLaws.{among_stands, stands_among}
use Rattle.lists.proofs.FilterLaws.{in_tabled, tabled, item_has, has_item}

-- ---- picked places stand in the table
picked_le : (on : List Bool) (l : List ℕ) → length (picked on l) ≤ length l
unfolding picked
picked_le on [] = zero-le
picked_le on (i ∷ l) = go (get_or on i false) (picked_le on l)
  where
    go : (t : Bool) → length (picked on l) ≤ length l → length (cond t (i ∷ picked on l) (picked on l)) ≤ suc (length l)
    go true h = suc-le-suc h
    go false h = omega arith

picked_below : (on : List Bool) (m : ℕ) (l : List ℕ) → Below m l → Below m (picked on l)
unfolding picked
picked_below on m [] f = f
picked_below on m (i ∷ l) f = go (get_or on i false) (f 0 (suc-le-suc zero-le)) (picked_below on m l (λ j h. f (suc j) (suc-le-suc h)))
  where
    go : (t : Bool) → i < m → Below m (picked on l) → Below m (cond t (i ∷ picked on l) (picked on l))
    go true b g zero h = b
    go true b g (suc j) h = g j (le_of_suc-le-suc h)
    go false b g j h = g j h

module _ (limit : ℕ) (t : Bytes) (n : ℕ) (g : GoodRuns limit t n) (few : limit ≤ large_limit) (on : List Bool) (c : Chosen) (h : Chose (picked on (order limit t n)) c) where
  pub stand : Stand t c
  stand = record {
    long = h.long;
    few =
        let a = picked_le on (order limit t n) in
        let b = order_long limit t n g.long g.room in
        let e = h.count in
        let r = g.room in
        omega arith;
    within = λ j p.
        let e = h.count in
        let q : get_or c.places j 0 ≡ get_or (picked on (order limit t n)) j 0 = sym (get_or-take c.count c.places j 0 p) ∙ ap (λ (l : List ℕ). get_or l j 0) h.places in
        run_fits limit t n g (get_or c.places j 0) (rw q (picked_below on n (order limit t n) g.placed j (omega arith)));
  }

  -- marks on the rows: each says whether p holds of the row, whose v stands in the table at its place
  module _ {A : Type 0} (f : ℕ → A) (v : A → Bytes) (p : A → Bool) (marks : (i : ℕ) → i < n → get_or on i false ≡ p (f i)) (at : (i : ℕ) → i < n → v (f i) ≡ run_at t i) where
    pub rows_chosen : chosen_runs t c ≡ listing v p (tabulate f n)
    rows_chosen =
        ap (λ (l : List ℕ). map (run_at t) l) h.places
        ∙ chosen_sorted limit t n g on (map v (filtered p (tabulate f n)))
        (λ x m. item_has v p (tabulate f n) x (record { one = f m.place; held = in_tabled f n m.place m.within; fits = sym (marks m.place m.within) ∙ m.chosen; is = at m.place m.within ∙ m.is }))
        (λ x q.
        let i = has_item v p (tabulate f n) x q in
        let w = tabled f n i.held in
        record { place = w.at; within = w.within; chosen = marks w.at w.within ∙ rw w.is i.fits; is = sym (at w.at w.within) ∙ rw w.is i.is })

  -- marks on the keys that the first m of a column name
  module _ {A : Type 0} (f : ℕ → A) (v : A → Bytes) (m : ℕ) (column : List ℕ) (long : m ≤ length column) (held : (i : ℕ) → i < m → get_or column i 0 < n)
      (marks : (k : ℕ) → get_or on k false ≡ among k (take m column)) (at : (i : ℕ) → i < m → v (f i) ≡ run_at t (get_or column i 0)) where
    pub keys_chosen : chosen_runs t c ≡ listing v all (tabulate f m)
    keys_chosen =
        ap (λ (l : List ℕ). map (run_at t) l) h.places
        ∙ chosen_sorted limit t n g on (map v (filtered all (tabulate f m)))
        (λ x k.
        let s = among_stands k.place m column long (sym (marks k.place) ∙ k.chosen) in
        item_has v all (tabulate f m) x (record { one = f s.at; held = in_tabled f m s.at s.within; fits = refl; is = at s.at s.within ∙ rw s.is k.is }))
        (λ x q.
        let i = has_item v all (tabulate f m) x q in
        let w = tabled f m i.held in
        record {
          place = get_or column w.at 0;
          within = held w.at w.within;
          chosen = marks (get_or column w.at 0) ∙ stands_among (get_or column w.at 0) m column long (record { at = w.at; within = w.within; is = refl });
          is = sym (at w.at w.within) ∙ rw w.is i.is;
        })

-- ---- a key is the one asked for exactly where it stands at that one's place
pub same_place : (limit : ℕ) (t : Bytes) (n : ℕ) → GoodRuns limit t n → (i : ℕ) → i < n → (x : Bytes) → eqb i (place (runs t n) x) ≡ eq_bytes (run_at t i) x
same_place limit t n g i h x = go (eq_bytes (run_at t i) x) refl
  where
    go : (u : Bool) → eq_bytes (run_at t i) x ≡ u → eqb i (place (runs t n) x) ≡ u
    go true e = eq-eqb i (place (runs t n) x) (found_at limit t n g x i h (eq_true (run_at t i) x e))
    go false e =
        ne_eqb i (place (runs t n) x)
        (λ q.
        let l = runs_long limit t n g in
        let r : run_at t i ≡ x = sym (runs_at limit t n g i h) ∙ rw q (get_or_place (runs t n) x [] (omega arith)) in
        let z : ◌≡◌ {A = Bool} false true = sym e ∙ eq_same (run_at t i) x r in
        let y : ◌≡◌ {A = ℕ} 0 1 = cc in
        omega arith)
