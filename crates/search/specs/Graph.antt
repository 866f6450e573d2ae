-- The rules D1 to D3 at places: keys and delegations are numbers, and what the delegations say stands in lists.
-- A grade is the level c(d) plus one, and 0 where d is not usable. Assumes nothing.
use Rattle.std.specs.Prelude.{ℕ, pred, ◌≤◌, ◌<◌, ◌≡◌, List, get_or}
use Rattle.keyset.specs.Word.{bit}
use Rattle.places.specs.Limits.{key_limit, level_count}
use Rattle.rules.specs.Rules.{Shape, Stands}
use Rattle.rules.proofs.Derivations.Answers.{AtLeast}

pub record Graph : Type 0 where
  pub issuer : List ℕ
  pub audience : List ℕ
  pub subject : List ℕ
  pub grades : List ℕ
  pub exclude : ℕ

abbrev pub graph : List ℕ → List ℕ → List ℕ → List ℕ → ℕ → Graph
graph i a s g n = record { issuer = i; audience = a; subject = s; grades = g; exclude = n }

-- the stated powers take no part: c(d) is what the grade says
abbrev pub world : Graph → Shape
world G = record {
  Key = ℕ;
  Del = ℕ;
  issuer = λ d. get_or G.issuer d 0;
  audience = λ d. get_or G.audience d 0;
  subject = λ d. get_or G.subject d 0;
  power = λ d. 0;
}

-- x stands over r at the level l
abbrev pub Holds : Graph → ℕ → ℕ → ℕ → Type 0
Holds G = Stands (world G) (λ d. 0 < get_or G.grades d 0) (λ x. bit G.exclude x ≡ 1) (λ d. pred (get_or G.grades d 0))

-- x stands over r at l or above
abbrev pub At : Graph → ℕ → ℕ → ℕ → Type 0
At G r x l = AtLeast (Holds G r x) l

-- every place is a place, and every grade a grade
pub record Placed (G : Graph) : Type 0 where
  pub issuer_lt : (d : ℕ) → get_or G.issuer d 0 < key_limit
  pub audience_lt : (d : ℕ) → get_or G.audience d 0 < key_limit
  pub grade_le : (d : ℕ) → get_or G.grades d 0 ≤ level_count
