-- What a loop over places gathers or fills. Assumes nothing.
use Rattle.std.specs.Prelude.{ℕ, ◌≤◌, ◌<◌, ◌≡◌, Bool, true, false, List, get_or, length}
use Rattle.places.specs.Limits.{delegation_limit}

-- one of the first n is T of k
pub record Any (n : ℕ) (T : ℕ → ℕ → Type 0) (k : ℕ) : Type 0 where
  pub place : ℕ
  pub lt : place < n
  pub is : T place k

-- j is one of the first n, and P
pub record Below (n : ℕ) (P : ℕ → Type 0) (j : ℕ) : Type 0 where
  pub lt : j < n
  pub is : P j

-- the first n elements are as P says, and the rest 0
pub record Filled (n : ℕ) (P : ℕ → ℕ → Type 0) (g : List ℕ) : Type 0 where
  pub len : length g ≡ delegation_limit
  pub here : (d : ℕ) → d < n → P d (get_or g d 0)
  pub rest : (d : ℕ) → n ≤ d → get_or g d 0 ≡ 0

-- whether two arrays differ below n
pub record Differ (n : ℕ) (a b : List ℕ) (t : Bool) : Type 0 where
  pub yes : t ≡ true → (d : ℕ) × (d < n) × (get_or a d 0 ≡ get_or b d 0 → ⊥)
  pub no : t ≡ false → (d : ℕ) → d < n → get_or a d 0 ≡ get_or b d 0
