-- What a search finds: for each root a word for each level, and what they say by the rules. Assumes nothing.
use Rattle.std.specs.Prelude.{ℕ, zero, suc, ◌+◌, ◌*◌, ◌<◌, ◌≡◌, List, get_or}
use Rattle.keyset.specs.Word.{bit}
use Rattle.places.specs.Limits.{level_count}
use Rattle.rules.specs.Rules.{Answer}
use Rattle.rules.specs.Rows.{level_of}

-- the word of r at the level l
abbrev pub word : List ℕ → ℕ → ℕ → ℕ
word levels r l = get_or levels (r * level_count + l) 0

-- it has x
abbrev pub On : List ℕ → ℕ → ℕ → ℕ → Type 0
On levels l r x = bit (word levels r l) x ≡ 1

-- at how many of the levels below n the word has x
unfoldable pub height_below : ℕ → List ℕ → ℕ → ℕ → ℕ
height_below zero levels r x = zero
height_below (suc n) levels r x = height_below n levels r x + bit (word levels r n) x

-- x's byte in r's row: one more than its level, and 0 where it has none
abbrev pub height : List ℕ → ℕ → ℕ → ℕ
height levels r x = height_below level_count levels r x

-- For each root r and each x the greatest level that S derives, or none; and a word for a higher level is contained in the next lower one.
pub record Found (S : ℕ → ℕ → ℕ → Type 0) (roots : ℕ) (levels : List ℕ) : Type 0 where
  pub answer : (r x : ℕ) → bit roots r ≡ 1 → Answer (S r x) (level_of (height levels r x))
  pub nested : (r x l : ℕ) → bit roots r ≡ 1 → suc l < level_count → On levels (suc l) r x → On levels l r x
