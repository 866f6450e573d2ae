-- What a line of the specimens' table says of a store, and what it means by the definitions.
use Rattle.std.specs.Prelude.{ℕ, ◌≡◌}
use Rattle.std.proofs.Math.Option.{Option}
use mathlib.Core.List.{List, Memᴰ}
use Rattle.rules.specs.Rules.{Lists, Excluded, LiveCovered, Live, Caps, Closure, ClosureRev, Standing, StandingIs, PositiveIs, EffectiveIs, ConveyedIs, MembersAre}
use Rattle.rules.specs.Numbered.{Del, Rev, Holding, store, world, Less, Lower, Cert, inserted}

pub data Fact : Type 0 where
  -- the key's level over the subject: subject, key, level
  positive : ℕ → ℕ → Option ℕ → Fact
  effective : ℕ → ℕ → Option ℕ → Fact
  conveyed : Del → Option ℕ → Fact
  -- live and covered, with that cap
  capped : Del → ℕ → Fact
  alive : Del → Fact
  dead : Del → Fact
  standing : Del → Standing → Fact
  -- N(d), ascending
  excluding : Del → List ℕ → Fact
  closure : ℕ → List Del → List Rev → Fact
  -- each with its level
  members : ℕ → List (ℕ × ℕ) → Fact

pub record CapIs (S : Holding) (d : Del) (l : ℕ) : Type 0 where
  pub lives : LiveCovered (world S) d
  pub κ : Del → ℕ
  pub caps : Caps (world S) κ
  pub level : κ d ≡ l

abbrev pub Right : Holding → Fact → Type 0
Right S (positive s x o) = PositiveIs (world S) s x o
Right S (effective s x o) = EffectiveIs (world S) s x o
Right S (conveyed d o) = ConveyedIs (world S) d o
Right S (capped d l) = CapIs S d l
Right S (alive d) = Live (world S) d
Right S (dead d) = ¬ Live (world S) d
Right S (standing d t) = StandingIs (world S) d t
Right S (excluding d ns) = Lists Less (Excluded (world S) d) ns
Right S (closure s ds vs) = Lists (Lower (λ d. d.digest)) (Closure (world S) s) ds × Lists (Lower (λ v. v.digest)) (ClosureRev (store S) s) vs
Right S (members s ms) = MembersAre (world S) Less s ms

-- A case: what was inserted, in that order, and what is so afterwards.
pub record Case : Type 0 where
  pub certs : List Cert
  pub facts : List Fact

pub record Specimen : Type 0 where
  pub number : ℕ
  pub cases : List Case

-- Every fact of every case is right.
abbrev pub Holds : Specimen → Type 0
Holds s = (c : Case) → Memᴰ c s.cases → (f : Fact) → Memᴰ f c.facts → Right (inserted c.certs) f
