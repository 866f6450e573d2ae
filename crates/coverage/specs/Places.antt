-- The rules' shape and graph at places. Assumes nothing.
use Rattle.std.specs.Prelude.{ℕ, pred, ◌≤◌, ◌<◌, ◌≡◌, List, get_or, length}
use Rattle.keyset.specs.Word.{bit}
use Rattle.places.specs.Limits.{delegation_limit, level_count}
use Rattle.rules.specs.Rules.{Shape, Graph, Stands}
use Rattle.coverage.specs.Arrays.{Any}
use Rattle.coverage.specs.Fits.{Fits}
use Rattle.coverage.specs.declared.Facts.{Facts}

abbrev pub shape : Facts → Shape
shape e = record {
  Key = ℕ;
  Del = ℕ;
  issuer = λ d. get_or e.issuer d 0;
  audience = λ d. get_or e.audience d 0;
  subject = λ d. get_or e.subject d 0;
  power = λ d. get_or e.power d 0;
}

-- one of the first m revocations names d, and k issued it
abbrev pub Names : List ℕ → List ℕ → ℕ → ℕ → ℕ → Type 0
Names revoker target m d k = Any m (λ j i. (get_or target j 0 ≡ d) × (get_or revoker j 0 ≡ i)) k

abbrev pub places : (e : Facts) → Graph (shape e)
places e = record { Held = λ d. d < e.delegations; Revokes = λ k d. Names e.revoker e.target e.revocations d k }

-- k is the subject of a held delegation
abbrev pub Subject : Facts → ℕ → Type 0
Subject e k = Any e.delegations (λ d i. get_or e.subject d 0 ≡ i) k

-- every place is a place, and every power a rank
abbrev pub Fit : Facts → Type 0
Fit e = Fits e.issuer e.audience e.subject e.power e.delegations e.revoker e.revocations

-- grades of held delegations
pub record Grades (e : Facts) (g : List ℕ) : Type 0 where
  pub len : length g ≡ delegation_limit
  pub le : (d : ℕ) → get_or g d 0 ≤ level_count
  pub held : (d : ℕ) → 0 < get_or g d 0 → d < e.delegations

-- x stands over r at l, with the delegations that have a grade, at their grades, and the keys of n excluded
abbrev pub Over : Facts → List ℕ → ℕ → ℕ → ℕ → ℕ → Type 0
Over e g n = Stands (shape e) (λ d. 0 < get_or g d 0) (λ x. bit n x ≡ 1) (λ d. pred (get_or g d 0))
