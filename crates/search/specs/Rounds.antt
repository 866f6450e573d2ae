-- The rounds of a search: which roots are still to be passed, and what can still rise. Assumes nothing.
use Rattle.std.specs.Prelude.{ℕ, zero, suc, ◌+◌, ◌-◌, ◌*◌, ◌≤◌, ◌<◌, ◌≡◌, Bool, true, false, List, ◌⊎◌, get_or, length}
use Rattle.keyset.specs.Word.{bit, size}
use Rattle.places.specs.Limits.{key_limit, level_count}
use Rattle.search.specs.Graph.{Graph}
use Rattle.search.specs.Levels.{word, On}
use Rattle.search.specs.Walk.{In, Leads, Sound}

-- a key that a word of row has and r's word of levels has not
pub record Rise (r : ℕ) (row levels : List ℕ) : Type 0 where
  pub level : ℕ
  pub level_lt : level < level_count
  pub key : ℕ
  pub key_lt : key < key_limit
  pub new : In row level key
  pub old : bit (word levels r level) key ≡ 0

-- next is levels with the words of row, at the levels below top, for r's, and t says whether one of them has a key more
pub record Stored (r top : ℕ) (row levels next : List ℕ) (t : Bool) : Type 0 where
  pub same : length next ≡ length levels
  pub here : (l : ℕ) → l < top → word next r l ≡ get_or row l 0
  pub rest : (l : ℕ) → top ≤ l → l < level_count → word next r l ≡ word levels r l
  pub there : (l u : ℕ) → (u ≡ r → ⊥) → l < level_count → word next u l ≡ word levels u l
  pub still : t ≡ false → (l x : ℕ) → l < top → bit (get_or row l 0) x ≤ bit (word levels r l) x
  pub rose : t ≡ true → Rise r row levels

-- no rule adds to r's words, and the subjects among their keys are known
pub record Closed (G : Graph) (subjects known : ℕ) (levels : List ℕ) (r : ℕ) : Type 0 where
  pub self : (l : ℕ) → l < level_count → bit G.exclude r ≡ 0 → On levels l r r
  pub edge : (l h u x : ℕ) → l < level_count → l ≤ h → On levels l r u → Leads G r u x h → On levels l r x
  pub member : (l u x : ℕ) → l < level_count → u < key_limit → On levels l r u → On levels l u x → On levels l r x
  pub found : (l u : ℕ) → l < level_count → On levels l r u → bit subjects u ≡ 1 → bit known u ≡ 1

-- how many keys the first n words have
unfoldable pub total : ℕ → List ℕ → ℕ
total zero levels = zero
total (suc n) levels = total n levels + size key_limit (get_or levels n 0)

-- what can still rise: keys that no word has yet, and roots that are not known yet
unfoldable pub room : List ℕ → ℕ → ℕ
room levels known = (key_limit * level_count * key_limit - total (key_limit * level_count) levels) + (key_limit - size key_limit known)

-- Where a search stands: known are its roots and the subjects found so far, left are to be passed in this round, due in the next. The words of every
-- other known root are closed.
pub record Going (G : Graph) (subjects known left due : ℕ) (levels : List ℕ) : Type 0 where
  pub sound : Sound G levels
  pub len : length levels ≡ key_limit * level_count
  pub closed : (r : ℕ) → bit known r ≡ 1 → bit left r ≡ 0 → bit due r ≡ 0 → Closed G subjects known levels r

-- the room never grows, and it shrinks where a root falls due
pub record Falls (room₀ due₀ room₁ due₁ : ℕ) : Type 0 where
  pub falls : room₁ ≤ room₀
  pub less : (size key_limit due₁ ≤ size key_limit due₀) ⊎ (room₁ < room₀)

-- what passes do
pub record Passed (G : Graph) (subjects known due : ℕ) (levels : List ℕ) (known' left' due' : ℕ) (levels' : List ℕ) : Type 0 where
  pub going : Going G subjects known' left' due' levels'
  pub more : (j : ℕ) → bit known j ≤ bit known' j
  pub falls : Falls (room levels known) due (room levels' known') due'
