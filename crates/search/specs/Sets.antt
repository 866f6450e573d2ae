-- A flag that decides a fact, and a word that is a set. Assumes nothing.
use Rattle.std.specs.Prelude.{ℕ, ◌≡◌, Bool, true, false}
use Rattle.keyset.specs.Word.{bit}

-- t says whether P
pub record Says (t : Bool) (P : Type 0) : Type 0 where
  pub yes : t ≡ true → P
  pub no : t ≡ false → P → ⊥

-- w has exactly the keys that are P
pub record Word (w : ℕ) (P : ℕ → Type 0) : Type 0 where
  pub has : (k : ℕ) → P k → bit w k ≡ 1
  pub only : (k : ℕ) → bit w k ≡ 1 → P k

-- k is one of all, and P
pub record Among (all : ℕ) (P : ℕ → Type 0) (k : ℕ) : Type 0 where
  pub member : bit all k ≡ 1
  pub is : P k
