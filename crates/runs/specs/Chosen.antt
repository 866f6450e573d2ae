-- Places chosen by marks, and what is listed of them.
use Rattle.std.specs.Prelude.{ℕ, ◌≤◌, ◌<◌, ◌+◌, ◌*◌, ◌≡◌, Bool, true, false, cond, List, [], ◌∷◌, map, length, take, get_or}
use Rattle.runs.specs.Bytes.{Bytes, run_length, run_at}
use Rattle.runs.specs.Table.{large_limit}
use Rattle.runs.specs.declared.list.Chosen.{Chosen}

-- the places of l whose mark is on
unfoldable pub picked : List Bool → List ℕ → List ℕ
picked on [] = []
picked on (i ∷ l) = cond (get_or on i false) (i ∷ picked on l) (picked on l)

-- the places that were chosen
abbrev pub chosen : Chosen → List ℕ
chosen c = take c.count c.places

-- c has the places of l, which a list of at most `large_limit` holds
pub record Chose (l : List ℕ) (c : Chosen) : Type 0 where
  pub long : length c.places ≡ large_limit
  pub count : c.count ≡ length l
  pub places : chosen c ≡ l

-- the value at each place
abbrev pub values_at : List ℕ → List ℕ → List ℕ
values_at vs l = map (λ i. get_or vs i 0) l

-- k places whose runs stand in t, and room for the runs
pub record Listable (t places : List ℕ) (k : ℕ) (out : Bytes) : Type 0 where
  pub enough : k ≤ length places
  pub within : (j : ℕ) → j < k → run_length * get_or places j 0 + run_length ≤ length t
  pub room : run_length * k ≤ length out

-- k places that have a value, and room for the values
pub record Valued (values places : List ℕ) (k : ℕ) (out : Bytes) : Type 0 where
  pub enough : k ≤ length places
  pub within : (j : ℕ) → j < k → get_or places j 0 < length values
  pub room : k ≤ length out

-- x is a run of the table whose mark is on
pub record Marked (on : List Bool) (t : Bytes) (n : ℕ) (x : Bytes) : Type 0 where
  pub place : ℕ
  pub within : place < n
  pub chosen : get_or on place false ≡ true
  pub is : run_at t place ≡ x
