-- Chosen runs in a buffer: how long they are, and one list behind another. Rests on ListLaws of `runs`.
use Prim.Native.Nat.{ℕ, ◌+◌, ◌-◌, ◌*◌, ◌≤◌, ◌<◌}
use mathlib.Core.Path.{◌≡◌, ap, ◌∙◌}
use mathlib.Core.List.{[], ◌++◌, append-nil}
use native.Mathlib.Omega.{arith}
use lib.ListN.{length, take, drop, get_or, length-map, length-drop, drop_of_length-le}
use lib.Seq.{length-take-le, get_or-take}
use borrow.Rule.Slice.PartMut.{put_mid}
use Rattle.lent.specs.Bytes.{front}
use Rattle.lent.proofs.Fronts.{length_front}
use Rattle.runs.specs.Bytes.{Bytes, run_length, run_at, joined}
use Rattle.runs.specs.Chosen.{chosen}
use Rattle.runs.specs.declared.list.Chosen.{Chosen}
use Rattle.runs.proofs.ByteLaws.{length_run}
use Rattle.runs.proofs.PartLaws.{map_at}
use Rattle.runs.proofs.ListLaws.{joined_long, front_mid}
use Rattle.lists.specs.Marks.{chosen_runs, Stand}

module _ (t : Bytes) (c : Chosen) (s : Stand t c) where
  places_long : length (chosen c) ≡ c.count
  places_long = let a = s.long in let b = s.few in length-take-le c.count c.places (omega arith)

  pub chosen_long : length (chosen_runs t c) ≡ c.count
  chosen_long = length-map (chosen c) (run_at t) ∙ places_long

  pub joined_chosen : length (joined (chosen_runs t c)) ≡ run_length * c.count
  joined_chosen =
      let l = chosen_long in
      let p = places_long in
      joined_long (chosen_runs t c)
      (λ j h. let q : j < c.count = omega arith in rw (map_at (run_at t) (chosen c) j 0 [] (omega arith), get_or-take c.count c.places j 0 q) (length_run t (get_or c.places j 0) (s.within j q)))
      ∙ rw l

-- p is put at the front of o, and then q into the m bytes behind it
pub behind : (o p q : Bytes) (n m : ℕ) (x y : Bytes) → length p ≡ n → length q ≡ m → n + m ≤ length o → x ≡ front p o → y ≡ front q (take (n + m - n) (drop n x))
    → put_mid n (n + m - n) x y ≡ front (p ++ q) o
unfolding front
behind o p q n m x y ep eq h ex ey =
    let k : n + m - n ≡ m = omega arith in
    let l : length x ≡ length o = ap (λ (b : Bytes). length b) ex ∙ length_front p o (omega arith) in
    let r : length (take (n + m - n) (drop n x)) ≡ m = length-take-le (n + m - n) (drop n x) (simp length-drop (omega arith)) ∙ k in
    let z : drop (length q) (take (n + m - n) (drop n x)) ≡ [] = drop_of_length-le (take (n + m - n) (drop n x)) {i = length q} (omega arith) in
    let w : y ≡ q = ey ∙ rw z (append-nil q) in
    rw (w, k) (front_mid p o x q n m ep eq ex)
