-- Runs of bytes in a buffer. A list of numbers is what a slice holds. Rests on nothing.
use Rattle.std.specs.Prelude.{ℕ, ◌+◌, cond, List, ◌++◌, leb, length, take, drop}

-- d with s from at on
unfoldable pub put : List ℕ → ℕ → List ℕ → List ℕ
put d at s = take at d ++ s ++ drop (at + length s) d

-- the same where it fits, else d as it was
unfoldable pub put_within : List ℕ → ℕ → List ℕ → List ℕ
put_within d at s = cond (leb (at + length s) (length d)) (put d at s) d

-- p at the front of d, whose later bytes stay
unfoldable pub front : List ℕ → List ℕ → List ℕ
front p d = p ++ drop (length p) d
