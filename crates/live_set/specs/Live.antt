-- Stratum 2, existence: what the rounds of the live set establish. Assumes nothing.
use Rattle.std.specs.Prelude.{ℕ, ◌+◌, ◌<◌, ◌≡◌, List, ◌⊎◌, get_or}
use Rattle.keyset.specs.Word.{bit}
use Rattle.search.specs.Graph.{Graph, At}
use Rattle.search.specs.Levels.{On}

-- v is d's grade where it is uncovered, and 0 where it is covered
pub record PlainAt (power excluded : List ℕ) (d v : ℕ) : Type 0 where
  pub yes : get_or excluded d 0 ≡ 0 → v ≡ get_or power d 0 + 1
  pub no : 0 < get_or excluded d 0 → v ≡ 0

-- covered, neither issuer nor subject excluded, and not revoked by the audience
pub record Fair (exclude revokers issuer audience subject : ℕ) : Type 0 where
  pub covered : 0 < exclude
  pub issuer_out : bit exclude issuer ≡ 0
  pub subject_out : bit exclude subject ≡ 0
  pub audience_out : bit revokers audience ≡ 0

-- the revocation j names such a delegation, one of the first n
pub record Open (target : List ℕ) (n : ℕ) (issuer audience subject revokers excluded : List ℕ) (j : ℕ) : Type 0 where
  pub held : get_or target j 0 < n
  pub fair : let d = get_or target j 0 in Fair (get_or excluded d 0) (get_or revokers d 0) (get_or issuer d 0) (get_or audience d 0) (get_or subject d 0)

-- d's issuer stands over its subject
abbrev pub Judged : Graph → ℕ → Type 0
Judged G d = At G (get_or G.subject d 0) (get_or G.issuer d 0) 0

-- d's issuer was found over its subject
abbrev pub Stood : List ℕ → List ℕ → List ℕ → ℕ → Type 0
Stood issuer subject base d = On base 0 (get_or subject d 0) (get_or issuer d 0)

-- v is the grade from which d's cap rises: Relay's where it is covered and usable, its own where it is uncovered and its issuer was found, else 0
pub record SettledAt (issuer subject excluded grades base : List ℕ) (d v : ℕ) : Type 0 where
  pub covered : 0 < get_or excluded d 0 → 0 < get_or grades d 0 → v ≡ 1
  pub plain : get_or excluded d 0 ≡ 0 → 0 < get_or grades d 0 → Stood issuer subject base d → v ≡ get_or grades d 0
  pub only : 0 < v
      → (0 < get_or grades d 0) × ((0 < get_or excluded d 0) ⊎ ((get_or excluded d 0 ≡ 0) × Stood issuer subject base d × (v ≡ get_or grades d 0)))
