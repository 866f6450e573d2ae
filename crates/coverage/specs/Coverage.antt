-- Stratum 1, coverage: N(d) as a word, and which delegations are covered. Assumes nothing.
use Rattle.std.specs.Prelude.{ℕ, ◌<◌, ◌≡◌, List, ◌⊎◌, get_or, length}
use Rattle.keyset.specs.Word.{bit}
use Rattle.places.specs.Limits.{delegation_limit}
use Rattle.rules.specs.Rules.{Admin, Excluded, Covered}
use Rattle.search.specs.Sets.{Word, Among}
use Rattle.search.specs.Levels.{word}
use Rattle.coverage.specs.Arrays.{Filled}
use Rattle.coverage.specs.Places.{places, Names}
use Rattle.coverage.specs.declared.Facts.{Facts}

-- for each of the first n delegations the issuers of those of the first m revocations that name it
pub record RevokersBy (revoker target : List ℕ) (m n : ℕ) (words : List ℕ) : Type 0 where
  pub len : length words ≡ delegation_limit
  pub is : (d : ℕ) → d < n → Word (get_or words d 0) (Names revoker target m d)

-- one of the first m revocations names d
pub record NamedBelow (target : List ℕ) (m d : ℕ) : Type 0 where
  pub place : ℕ
  pub lt : place < m
  pub is : get_or target place 0 ≡ d

-- the two words share a key
pub record Shared (a b : ℕ) : Type 0 where
  pub key : ℕ
  pub left : bit a key ≡ 1
  pub right : bit b key ≡ 1

-- k is one of the revokers w, or a subject over which one of them was found at Admin
abbrev pub Listed : ℕ → ℕ → List ℕ → ℕ → Type 0
Listed w subjects found k = (bit w k ≡ 1) ⊎ Among subjects (λ s. Shared (word found s Admin) w) k

-- r is the word of these keys where one of them was found over s, and 0 where none was
pub record Exclusion (w s subjects : ℕ) (found : List ℕ) (r : ℕ) : Type 0 where
  pub word_is : 0 < r → Word r (Listed w subjects found)
  pub some : 0 < r → Shared r (word found s 0)
  pub none : r ≡ 0 → (k : ℕ) → Listed w subjects found k → bit (word found s 0) k ≡ 1 → ⊥

-- w is N(d) where d is covered, and 0 where it is not
pub record NetIs (e : Facts) (d w : ℕ) : Type 0 where
  pub none : w ≡ 0 → Covered (places e) d → ⊥
  pub some : 0 < w → Covered (places e) d
  pub word_is : 0 < w → Word w (Excluded (places e) d)

abbrev pub Nets : Facts → List ℕ → Type 0
Nets e excluded = Filled e.delegations (NetIs e) excluded
