-- Stratum 2, level: what the rounds of caps establish. Assumes nothing.
use Rattle.std.specs.Prelude.{ℕ, pred, ◌+◌, ◌<◌, min, max, ◌≡◌, List, ◌⊎◌, get_or, length}
use Rattle.keyset.specs.Word.{bit}
use Rattle.rules.specs.Rules.{Answer, Caps}
use Rattle.rules.specs.Rows.{level_of}
use Rattle.search.specs.Graph.{Graph, graph, Holds}
use Rattle.coverage.specs.Places.{places}
use Rattle.coverage.specs.Contexts.{Through}
use Rattle.coverage.specs.Lives.{Lives}
use Rattle.coverage.specs.declared.Facts.{Facts}

-- the revocation j names a live covered delegation, one of the first n
pub record Alive (target : List ℕ) (n : ℕ) (excluded grades : List ℕ) (j : ℕ) : Type 0 where
  pub held : get_or target j 0 < n
  pub covered : 0 < get_or excluded (get_or target j 0) 0
  pub live : 0 < get_or grades (get_or target j 0) 0

-- the same graph with the keys of w excluded
abbrev pub excluding : Graph → ℕ → Graph
excluding G w = graph G.issuer G.audience G.subject G.grades w

-- v is d's grade, raised to what its issuer's level supports
pub record Raised (G : Graph) (power : List ℕ) (d v : ℕ) : Type 0 where
  pub value : ℕ
  pub is : Answer (Holds G (get_or G.subject d 0) (get_or G.issuer d 0)) (level_of value)
  pub equation : v ≡ max (get_or G.grades d 0) (min (get_or power d 0 + 1) value)

-- each living member's delegation is raised with its context's keys excluded, and every other grade is as it was
pub record Lifted (G : Graph) (power target : List ℕ) (living count : ℕ) (exclude members next : List ℕ) : Type 0 where
  pub same : length next ≡ length G.grades
  pub here : (c j : ℕ) → c < count → bit (get_or members c 0) j ≡ 1 → bit living j ≡ 1
      → Raised (excluding G (get_or exclude c 0)) power (get_or target j 0) (get_or next (get_or target j 0) 0)
  pub there : (d : ℕ) → (get_or next d 0 ≡ get_or G.grades d 0) ⊎ Through living (λ j. get_or target j 0) d

-- the level c(d) that a grade says
abbrev pub level_at : List ℕ → ℕ → ℕ
level_at grades d = pred (get_or grades d 0)

-- the final grades: exactly the live ones have one, and it is the cap's, or the power's of an uncovered one
pub record Capped (e : Facts) (grades : List ℕ) : Type 0 where
  pub lives : Lives e grades
  pub caps : Caps (places e) (level_at grades)
