-- One pass: words that grow, what an expanded key adds to them, and the row that is left at the end. Assumes nothing.
use Rattle.std.specs.Prelude.{ℕ, suc, pred, min, ◌≤◌, ◌<◌, ◌≡◌, List, ◌⊎◌, get_or, length}
use Rattle.keyset.specs.Word.{bit}
use Rattle.places.specs.Limits.{key_limit, level_count}
use Rattle.search.specs.Graph.{Graph, At}
use Rattle.search.specs.Levels.{On}

-- key x is in the word at m
abbrev pub In : List ℕ → ℕ → ℕ → Type 0
In b m x = bit (get_or b m 0) x ≡ 1

-- c is b with exactly the pairs of T added
pub record Grown (b c : List ℕ) (T : ℕ → ℕ → Type 0) : Type 0 where
  pub same : length c ≡ length b
  pub keeps : (m x : ℕ) → In b m x → In c m x
  pub gains : (m x : ℕ) → T m x → In c m x
  pub news : (m x : ℕ) → In c m x → In b m x ⊎ T m x

-- a usable delegation about r from u to x, which is not excluded, at the level h
pub record Leads (G : Graph) (r u x h : ℕ) : Type 0 where
  pub del : ℕ
  pub about_root : get_or G.subject del 0 ≡ r
  pub is_issuer : get_or G.issuer del 0 ≡ u
  pub is_audience : get_or G.audience del 0 ≡ x
  pub is_grade : get_or G.grades del 0 ≡ suc h
  pub free : bit G.exclude x ≡ 0

-- what one delegation adds where its issuer stands at v: its audience, at the lesser of v and the delegation's level
pub record Relaxed (v grade audience exclude m x : ℕ) : Type 0 where
  pub usable : 0 < grade
  pub free : bit exclude audience ≡ 0
  pub is_m : m ≡ min v (pred grade)
  pub is_x : x ≡ audience

-- what u's delegations about r from the place low on add where u stands at v
pub record Led (G : Graph) (r u v low m x : ℕ) : Type 0 where
  pub level : ℕ
  pub leads : Leads G r u x level
  pub from : low ≤ leads.del
  pub is_m : m ≡ min v level

-- what u's members at the levels below top add
pub record Joins (levels : List ℕ) (u top m x : ℕ) : Type 0 where
  pub below : m < top
  pub has : On levels m u x

-- every word that was found so far is derived, and contains the words above it
pub record Sound (G : Graph) (levels : List ℕ) : Type 0 where
  pub derived : (l u x : ℕ) → l < level_count → u < key_limit → On levels l u x → At G u x l
  pub nested : (l u x : ℕ) → suc l < level_count → u < key_limit → On levels (suc l) u x → On levels l u x

-- The words of a pass rooted at r: each key is derived, and no rule adds to them, with the members that levels has.
pub record Row (G : Graph) (r : ℕ) (levels row : List ℕ) : Type 0 where
  pub len : length row ≡ level_count
  pub derived : (l x : ℕ) → l < level_count → In row l x → At G r x l
  pub nested : (l x : ℕ) → suc l < level_count → In row (suc l) x → In row l x
  pub self : (l : ℕ) → l < level_count → bit G.exclude r ≡ 0 → In row l r
  pub edge : (l h u x : ℕ) → l < level_count → l ≤ h → In row l u → Leads G r u x h → In row l x
  pub member : (l u x : ℕ) → l < level_count → u < key_limit → In row l u → On levels l u x → In row l x
