-- Grades that say which delegations are live: what the live set hands to the caps, and these to the questions. Assumes nothing.
use Rattle.std.specs.Prelude.{ℕ, ◌+◌, ◌≤◌, ◌<◌, ◌≡◌, List, get_or, length}
use Rattle.places.specs.Limits.{delegation_limit}
use Rattle.rules.specs.Rules.{LiveCovered, LiveUncovered, Live}
use Rattle.coverage.specs.Places.{places}
use Rattle.coverage.specs.declared.Facts.{Facts}

-- exactly the live ones have a grade, at most their power's, and the uncovered ones that
pub record Lives (e : Facts) (grades : List ℕ) : Type 0 where
  pub len : length grades ≡ delegation_limit
  pub yes : (d : ℕ) → 0 < get_or grades d 0 → Live (places e) d
  pub no : (d : ℕ) → Live (places e) d → 0 < get_or grades d 0
  pub rest : (d : ℕ) → LiveUncovered (places e) d → get_or grades d 0 ≡ get_or e.power d 0 + 1
  pub most : (d : ℕ) → get_or grades d 0 ≤ get_or e.power d 0 + 1

-- and the covered ones Relay's
pub record Starts (e : Facts) (grades : List ℕ) : Type 0 where
  pub lives : Lives e grades
  pub relay : (d : ℕ) → LiveCovered (places e) d → get_or grades d 0 ≡ 1
