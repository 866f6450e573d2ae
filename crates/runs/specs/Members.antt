-- Which runs stand in a list, and where. Rests on equality of runs.
use Rattle.std.specs.Prelude.{ℕ, suc, ◌<◌, ◌≡◌, Bool, true, false, cond, List, [], ◌∷◌, ◌++◌, length, get_or}
use Rattle.runs.specs.Bytes.{Bytes, eq_bytes}

-- where k first stands in l, or l's length
unfoldable pub place : List Bytes → Bytes → ℕ
place [] k = 0
place (x ∷ l) k = cond (eq_bytes x k) 0 (suc (place l k))

-- whether k stands in l
unfoldable pub has : List Bytes → Bytes → Bool
has [] k = false
has (x ∷ l) k = cond (eq_bytes x k) true (has l k)

-- the runs of ks that l does not have, each once
unfoldable pub fresh : List Bytes → List Bytes → List Bytes
fresh l [] = []
fresh l (k ∷ ks) = cond (has l k) (fresh l ks) (k ∷ fresh (l ++ (k ∷ [])) ks)

-- no run stands twice: each is where it first stands
abbrev pub Distinct : List Bytes → Type 0
Distinct l = (i : ℕ) → i < length l → place l (get_or l i []) ≡ i

-- the same runs stand in both
abbrev pub SameRuns : List Bytes → List Bytes → Type 0
SameRuns l m = (k : Bytes) → has l k ≡ has m k
