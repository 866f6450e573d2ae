-- A table of n runs in an array of bytes with room for `limit`: the runs in the order in which they came, and behind the room for
-- runs a byte for each, the places of the runs in ascending order. The order makes a search short and a list a walk.
use Rattle.std.specs.Prelude.{ℕ, zero, suc, ◌+◌, ◌*◌, ◌≤◌, ◌<◌, ◌≡◌, false, List, [], ◌∷◌, ◌++◌, map, length, take, drop, get_or}
use Rattle.runs.specs.Bytes.{Bytes, run_length, run_at}
use Rattle.runs.specs.Members.{has, fresh, Distinct}
use Rattle.runs.specs.Sorted.{sorted}
use Rattle.runs.specs.declared.table.Interned.{Interned}

-- f 0, f 1, .., n of them
unfoldable pub tabulate : {A : Type 0} → (ℕ → A) → ℕ → List A
tabulate f zero = []
tabulate f (suc n) = tabulate f n ++ (f n ∷ [])

-- the runs, in the order in which they came
abbrev pub runs : Bytes → ℕ → List Bytes
runs t n = tabulate (run_at t) n

-- their places, in ascending order of the runs
unfoldable pub order : ℕ → Bytes → ℕ → List ℕ
order limit t n = take n (drop (run_length * limit) t)

-- every number in the list is below m
abbrev pub Below : ℕ → List ℕ → Type 0
Below m l = (j : ℕ) → j < length l → get_or l j 0 < m

-- what holds of every table
pub record GoodRuns (limit : ℕ) (t : Bytes) (n : ℕ) : Type 0 where
  pub room : n ≤ limit
  pub long : length t ≡ run_length * limit + limit
  pub apart : Distinct (runs t n)
  pub placed : Below n (order limit t n)
  pub ascends : map (run_at t) (order limit t n) ≡ sorted (runs t n)

-- tables are of two sizes; in both a place fits one byte
abbrev pub small_limit : ℕ
small_limit = 64

abbrev pub large_limit : ℕ
large_limit = 128

-- a run that t has not can be put behind its n runs
pub record Room (limit : ℕ) (t : Bytes) (n : ℕ) (run : Bytes) : Type 0 where
  pub good : GoodRuns limit t n
  pub few : limit ≤ large_limit
  pub space : n < limit
  pub fits : length run ≡ run_length
  pub new : has (runs t n) run ≡ false

-- and then stands there
pub record Pushed (limit : ℕ) (t u : Bytes) (n : ℕ) (run : Bytes) : Type 0 where
  pub good : GoodRuns limit u (n + 1)
  pub held : runs u (n + 1) ≡ runs t n ++ (run ∷ [])

-- a run that t has, or that can be put behind its n runs
pub record Internable (limit : ℕ) (t : Bytes) (n : ℕ) (run : Bytes) : Type 0 where
  pub good : GoodRuns limit t n
  pub few : limit ≤ large_limit
  pub space : n + length (fresh (runs t n) (run ∷ [])) ≤ limit
  pub fits : length run ≡ run_length

-- then stands at the place
pub record InternedAs (limit : ℕ) (t u : Bytes) (n : ℕ) (run : Bytes) (r : Interned) : Type 0 where
  pub good : GoodRuns limit u r.count
  pub held : runs u r.count ≡ runs t n ++ fresh (runs t n) (run ∷ [])
  pub within : r.place < r.count
  pub is : run_at u r.place ≡ run
