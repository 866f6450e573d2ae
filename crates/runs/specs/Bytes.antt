-- Runs of bytes, keys or digests: their length, equality and order as tests, and runs that stand one behind the other. Rests on nothing.
use Rattle.std.specs.Prelude.{ℕ, ◌*◌, ◌≡◌, Bool, true, false, cond, List, [], ◌∷◌, ◌++◌, take, drop, eqb, ltb}

abbrev pub Bytes : Type 0
Bytes = List ℕ

-- the length of a key, and of a digest
abbrev pub run_length : ℕ
run_length = 32

unfoldable pub eq_bytes : Bytes → Bytes → Bool
eq_bytes [] [] = true
eq_bytes [] (y ∷ ys) = false
eq_bytes (x ∷ xs) [] = false
eq_bytes (x ∷ xs) (y ∷ ys) = cond (eqb x y) (eq_bytes xs ys) false

-- the order of keys and digests: first byte first
unfoldable pub lt_bytes : Bytes → Bytes → Bool
lt_bytes [] [] = false
lt_bytes [] (y ∷ ys) = true
lt_bytes (x ∷ xs) [] = false
lt_bytes (x ∷ xs) (y ∷ ys) = cond (ltb x y) true (cond (eqb x y) (lt_bytes xs ys) false)

abbrev pub Less : Bytes → Bytes → Type 0
Less x y = lt_bytes x y ≡ true

-- the run at place i, where runs stand one behind the other
unfoldable pub run_at : Bytes → ℕ → Bytes
run_at b i = take run_length (drop (run_length * i) b)

-- runs, one behind the other
unfoldable pub joined : List Bytes → Bytes
joined [] = []
joined (b ∷ l) = b ++ joined l
