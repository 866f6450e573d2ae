-- Contexts, and words over the places of revocations that stand for the delegations that these name. Assumes nothing.
use Rattle.std.specs.Prelude.{ℕ, ◌≤◌, ◌<◌, ◌≡◌, List, ◌⊎◌, get_or, length}
use Rattle.keyset.specs.Word.{bit}
use Rattle.places.specs.Limits.{delegation_limit}

-- each member names a place of a delegation
abbrev pub Within : ℕ → List ℕ → Type 0
Within members target = (j : ℕ) → bit members j ≡ 1 → get_or target j 0 < delegation_limit

-- k is f of a member
pub record Through (members : ℕ) (f : ℕ → ℕ) (k : ℕ) : Type 0 where
  pub place : ℕ
  pub member : bit members place ≡ 1
  pub is : f place ≡ k

-- c is the first of the contexts that excludes w, or count where none does
pub record Sought (exclude : List ℕ) (count w c : ℕ) : Type 0 where
  pub le : c ≤ count
  pub found : c < count → get_or exclude c 0 ≡ w
  pub first : (i : ℕ) → i < c → get_or exclude i 0 ≡ w → ⊥

-- The contexts of the first m revocations: a revocation that names a covered delegation is a member of one context, which excludes N(d), and
-- no two contexts exclude the same keys.
pub record Grouped (target excluded : List ℕ) (m n count : ℕ) (exclude members : List ℕ) : Type 0 where
  pub count_le : count ≤ m
  pub member : (c j : ℕ) → c < count → bit (get_or members c 0) j ≡ 1
      → (j < m) × (get_or target j 0 < n) × (0 < get_or excluded (get_or target j 0) 0) × (get_or excluded (get_or target j 0) 0 ≡ get_or exclude c 0)
  pub all : (j : ℕ) → j < m → get_or target j 0 < n → 0 < get_or excluded (get_or target j 0) 0 → (c : ℕ) × (c < count) × (bit (get_or members c 0) j ≡ 1)
  pub distinct : (b c : ℕ) → b < count → c < count → get_or exclude b 0 ≡ get_or exclude c 0 → b ≡ c

-- j is a member of the context c, one of the first count, and P of it
pub record In (count : ℕ) (members : List ℕ) (P : ℕ → ℕ → Type 0) (j : ℕ) : Type 0 where
  pub context : ℕ
  pub lt : context < count
  pub member : bit (get_or members context 0) j ≡ 1
  pub is : P context j

-- contexts whose members name the same delegation exclude the same keys
abbrev pub Agreeing : ℕ → List ℕ → List ℕ → List ℕ → Type 0
Agreeing count exclude members target = (b c i j : ℕ) → b < count → c < count → bit (get_or members b 0) i ≡ 1 → bit (get_or members c 0) j ≡ 1
    → get_or target i 0 ≡ get_or target j 0 → get_or exclude b 0 ≡ get_or exclude c 0

-- the element of each delegation that a member names is as P says, and every other is as it was
pub record Put (members : ℕ) (target : List ℕ) (P : ℕ → ℕ → Type 0) (old new : List ℕ) : Type 0 where
  pub same : length new ≡ length old
  pub here : (j : ℕ) → bit members j ≡ 1 → P (get_or target j 0) (get_or new (get_or target j 0) 0)
  pub there : (d : ℕ) → (get_or new d 0 ≡ get_or old d 0) ⊎ Through members (λ j. get_or target j 0) d
