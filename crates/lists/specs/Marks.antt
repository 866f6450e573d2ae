-- Marks on places, by which a list is chosen.
use Rattle.std.specs.Prelude.{ℕ, ◌≤◌, ◌<◌, ◌+◌, ◌*◌, ◌≡◌, Bool, true, false, cond, List, [], ◌∷◌, map, length, get_or, eqb}
use Rattle.runs.specs.Bytes.{Bytes, run_length, run_at}
use Rattle.runs.specs.Table.{large_limit}
use Rattle.runs.specs.Chosen.{chosen}
use Rattle.runs.specs.declared.list.Chosen.{Chosen}

-- whether k is among l
unfoldable pub among : ℕ → List ℕ → Bool
among k [] = false
among k (i ∷ l) = cond (eqb i k) true (among k l)

-- the runs at the chosen places
abbrev pub chosen_runs : Bytes → Chosen → List Bytes
chosen_runs t c = map (run_at t) (chosen c)

-- which stand in t
pub record Stand (t : Bytes) (c : Chosen) : Type 0 where
  pub long : length c.places ≡ large_limit
  pub few : c.count ≤ large_limit
  pub within : (j : ℕ) → j < c.count → run_length * get_or c.places j 0 + run_length ≤ length t
