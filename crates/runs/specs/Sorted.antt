-- Runs in ascending order, each once. Rests on the order of runs.
use Rattle.std.specs.Prelude.{ℕ, suc, cond, List, [], ◌∷◌}
use Rattle.runs.specs.Bytes.{Bytes, eq_bytes, lt_bytes}

-- x put before the first that it is below, unless it is there
unfoldable pub inserted : Bytes → List Bytes → List Bytes
inserted x [] = x ∷ []
inserted x (y ∷ l) = cond (lt_bytes x y) (x ∷ y ∷ l) (cond (eq_bytes y x) (y ∷ l) (y ∷ inserted x l))

-- the runs of l put into the ascending list m, one after the other
unfoldable pub sorted_into : List Bytes → List Bytes → List Bytes
sorted_into m [] = m
sorted_into m (x ∷ l) = sorted_into (inserted x m) l

-- the runs of l, ascending, each once
abbrev pub sorted : List Bytes → List Bytes
sorted l = sorted_into [] l

-- how many at the front are below x: in an ascending list, where x stands or would stand
unfoldable pub spot : Bytes → List Bytes → ℕ
spot x [] = 0
spot x (y ∷ l) = cond (lt_bytes y x) (suc (spot x l)) 0
