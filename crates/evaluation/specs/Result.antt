-- What an evaluation is: all that the questions asked of it need. Assumes nothing.
use Rattle.std.specs.Prelude.{ℕ, ◌<◌, ◌≡◌, get_or}
use Rattle.places.specs.Limits.{key_limit}
use Rattle.rules.specs.Rules as rules
use Rattle.rules.specs.Rules.{Positive}
use Rattle.search.specs.Sets.{Word}
use Rattle.search.specs.Levels.{Found, word}
use Rattle.coverage.specs.Places.{places, Fit, Subject}
use Rattle.coverage.specs.Coverage.{Nets}
use Rattle.caps.specs.Caps.{Capped}
use Rattle.evaluation.specs.declared.Evaluation.{Evaluation}
use Rattle.keyline.specs.declared.standing.Standing.{Standing}
use Rattle.keyline.specs.declared.standing.Standing.TheVariants.{Live, Revoked, Unsupported}

pub record Evaluated (v : Evaluation) : Type 0 where
  pub fit : Fit v.facts
  -- the subjects of held delegations
  pub subjects : Word v.subjects (Subject v.facts)
  -- positive power over them
  pub found : Found (Positive (places v.facts)) v.subjects v.found
  -- the first of each key's words there: who stands over a subject at all
  pub reach : (r : ℕ) → r < key_limit → get_or v.reach r 0 ≡ word v.found r 0
  -- N(d) of the covered delegations, and 0 for the others
  pub excluded : Nets v.facts v.excluded
  -- the grades: exactly the live delegations have one, which is c(d) of document 01 plus one
  pub grades : Capped v.facts v.grades

-- a standing's name in the rules
abbrev pub standing_of : Standing → rules.Standing
standing_of Live = rules.live
standing_of Revoked = rules.revoked
standing_of Unsupported = rules.unsupported
