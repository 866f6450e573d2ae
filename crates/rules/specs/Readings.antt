-- Readings of document 01 that differ from Rules in words and give the same answers (proofs/Readings): one of D3, and two of coverage. The
-- oracle has the latter among its deliberate mistakes, as number 15 (`ends_untested`) and number 11 (`revoked_covered`), and no comparison
-- can notice them. A reading of coverage says which delegations count as covered and which of those are eligible. What follows from that is
-- defined here once for all readings, sentence by sentence as in Rules and under the names there with `By`; what does not depend on it is
-- that of Rules. (`plainly_*` of proofs/Readings/Alike: by the reading of Rules itself these definitions are those of Rules.)
use Rattle.std.specs.Prelude.{ℕ, min, ◌≤◌, ◌≡◌, ◌⊎◌, ◌↔◌}
use Rattle.std.proofs.Math.Option.{Option, none, some}
use mathlib.Core.List.{List, Memᴰ}
use Rattle.rules.specs.Rules.{Admin, Shape, Graph, Stands, Greatest, Answer, Nobody, Capped, Standing, live, revoked, unsupported, Excluded, Covered, Eligible, Reached, Live, StandingIs, EffectiveIs, ConveyedIs, Lists, MembersAre}

-- ## D3 through the root
-- `Stands` with D3 as it reads without "u differs from r". It is no mistake of the oracle's, and changes no answer either.
pub data StandsThrough (W : Shape) (E : W.Del → Type 0) (N : W.Key → Type 0) (c : W.Del → ℕ) : W.Key → W.Key → ℕ → Type 0 where
  t1 : {r : W.Key} → ¬ N r → StandsThrough W E N c r r Admin
  t2 : {r : W.Key} {l : ℕ} (d : W.Del) → E d → W.subject d ≡ r → ¬ N (W.audience d)
      → StandsThrough W E N c r (W.issuer d) l → StandsThrough W E N c r (W.audience d) (min l (c d))
  t3 : {r u x : W.Key} {l m : ℕ} → StandsThrough W E N c r u l → StandsThrough W E N c u x m → StandsThrough W E N c r x (min l m)

-- ## Readings of coverage
pub record Reading (W : Shape) : Type 1 where
  pub Counts : W.Del → Type 0
  pub Joins : W.Del → Type 0

-- ## Readings of what a store G holds
module _ {W : Shape} (G : Graph W) where
  -- document 01's own
  abbrev pub plainly : Reading W
  plainly = record { Counts = Covered G; Joins = Eligible G }

  -- "issuer and subject are not looked for in N(d)": `Eligible` without these two tests
  pub record EligibleAnyEnds (d : W.Del) : Type 0 where
    pub covered : Covered G d
    pub audience : ¬ G.Revokes (W.audience d) d

  abbrev pub ends_untested : Reading W
  ends_untested = record { Counts = Covered G; Joins = EligibleAnyEnds }

  -- "every revoked delegation counts as covered": held, and named by a held revocation, whoever issued it
  pub record Revoked (d : W.Del) : Type 0 where
    pub held : G.Held d
    pub key : W.Key
    pub revokes : G.Revokes key d

  pub record EligibleRevoked (d : W.Del) : Type 0 where
    pub covered : Revoked d
    pub issuer : ¬ Excluded G d (W.issuer d)
    pub subject : ¬ Excluded G d (W.subject d)
    pub audience : ¬ G.Revokes (W.audience d) d

  abbrev pub revoked_covered : Reading W
  revoked_covered = record { Counts = Revoked; Joins = EligibleRevoked }

-- ## Evaluation of what a store G holds, by a reading R
module _ {W : Shape} (G : Graph W) (R : Reading W) where
  pub record UncoveredBy (d : W.Del) : Type 0 where
    pub held : G.Held d
    pub not : ¬ R.Counts d

  -- ### Live
  pub data LiveCoveredBy : W.Del → Type 0 where
    joins_by : {d : W.Del} {l : ℕ} (es : List W.Del) → R.Joins d → ((e : W.Del) → Memᴰ e es → LiveCoveredBy e)
        → Reached G (λ e. UncoveredBy e ⊎ Memᴰ e es) d l → LiveCoveredBy d

  abbrev pub UsableBy : W.Del → Type 0
  UsableBy e = UncoveredBy e ⊎ LiveCoveredBy e

  pub record LiveUncoveredBy (d : W.Del) : Type 0 where
    pub uncovered : UncoveredBy d
    pub level : ℕ
    pub stands : Stands W UsableBy Nobody W.power (W.subject d) (W.issuer d) level

  abbrev pub LiveBy : W.Del → Type 0
  LiveBy d = LiveUncoveredBy d ⊎ LiveCoveredBy d

  -- ### Caps
  abbrev pub AvoidingBy : (W.Del → ℕ) → W.Del → ℕ → Type 0
  AvoidingBy κ d = Stands W LiveBy (Excluded G d) κ (W.subject d) (W.issuer d)

  pub record CapEquationBy (κ : W.Del → ℕ) (d : W.Del) : Type 0 where
    pub level : Option ℕ
    pub greatest : Answer (AvoidingBy κ d) level
    pub equation : κ d ≡ Capped (W.power d) level

  pub record PreFixedBy (κ : W.Del → ℕ) : Type 0 where
    pub rest : (d : W.Del) → LiveUncoveredBy d → κ d ≡ W.power d
    pub above : (d : W.Del) → LiveCoveredBy d → (l : ℕ) → AvoidingBy κ d l → min (W.power d) l ≤ κ d

  pub record CapsBy (κ : W.Del → ℕ) : Type 0 where
    pub rest : (d : W.Del) → LiveUncoveredBy d → κ d ≡ W.power d
    pub equation : (d : W.Del) → LiveCoveredBy d → CapEquationBy κ d
    pub least : (κ' : W.Del → ℕ) → PreFixedBy κ' → (d : W.Del) → LiveCoveredBy d → κ d ≤ κ' d

  -- ### Effective and conveyed
  abbrev pub EffectiveBy : (W.Del → ℕ) → W.Key → W.Key → ℕ → Type 0
  EffectiveBy κ = Stands W LiveBy Nobody κ

  pub data ConveysBy (κ : W.Del → ℕ) (d : W.Del) : Option ℕ → Type 0 where
    cap_by : LiveCoveredBy d → ConveysBy κ d (some (κ d))
    plain_by : (l : ℕ) → LiveUncoveredBy d → Greatest (EffectiveBy κ (W.subject d) (W.issuer d)) l → ConveysBy κ d (some (min (W.power d) l))
    nothing_by : ¬ LiveBy d → ConveysBy κ d none

  -- ## Queries
  pub record EffectiveIsBy (s x : W.Key) (o : Option ℕ) : Type 0 where
    pub κ : W.Del → ℕ
    pub caps : CapsBy κ
    pub answer : Answer (EffectiveBy κ s x) o

  pub record ConveyedIsBy (d : W.Del) (o : Option ℕ) : Type 0 where
    pub κ : W.Del → ℕ
    pub caps : CapsBy κ
    pub conveys : ConveysBy κ d o

  pub record MemberBy (κ : W.Del → ℕ) (s : W.Key) (m : W.Key × ℕ) : Type 0 where
    pub other : ¬ (m.0 ≡ s)
    pub effective : Greatest (EffectiveBy κ s m.0) m.1

  pub record MembersAreBy (Less : W.Key → W.Key → Type 0) (s : W.Key) (ms : List (W.Key × ℕ)) : Type 0 where
    pub κ : W.Del → ℕ
    pub caps : CapsBy κ
    pub lists : Lists (λ m n. Less m.0 n.0) (MemberBy κ s) ms

  pub data StandingIsBy (d : W.Del) : Standing → Type 0 where
    live_by : LiveBy d → StandingIsBy d live
    revoked_by : (k : W.Key) → G.Held d → ¬ LiveBy d → G.Revokes k d → StandingIsBy d revoked
    unsupported_by : G.Held d → ¬ LiveBy d → ((k : W.Key) → ¬ G.Revokes k d) → StandingIsBy d unsupported

  -- ## That R changes no answer
  -- These are all answers that can depend on it: positive power, `subjects`, `delegations_to`, `revocations_of` and closures rest on what
  -- is held alone. Whatever answers satisfy the definitions of Rules and those by R, they are equal.
  pub record SameAnswers : Type 1 where
    pub effective : {s x : W.Key} {o p : Option ℕ} → EffectiveIs G s x o → EffectiveIsBy s x p → o ≡ p
    -- (no two keys may each be less than the other)
    pub members : {Less : W.Key → W.Key → Type 0} {s : W.Key} {ms ns : List (W.Key × ℕ)} → ((x y : W.Key) → Less x y → ¬ Less y x)
        → MembersAre G Less s ms → MembersAreBy Less s ns → ms ≡ ns
    -- the same delegations are dead
    pub dead : {d : W.Del} → (¬ Live G d) ↔ (¬ LiveBy d)
    pub conveyed : {d : W.Del} {o p : Option ℕ} → ConveyedIs G d o → ConveyedIsBy d p → o ≡ p
    pub standing : {d : W.Del} {o p : Standing} → StandingIs G d o → StandingIsBy d p → o ≡ p

  -- More: what is an answer of the one is an answer of the other, so that neither lacks an answer that the other has.
  pub record EachWay : Type 1 where
    pub effective : {s x : W.Key} {o : Option ℕ} → EffectiveIs G s x o ↔ EffectiveIsBy s x o
    pub members : {Less : W.Key → W.Key → Type 0} {s : W.Key} {ms : List (W.Key × ℕ)} → MembersAre G Less s ms ↔ MembersAreBy Less s ms
    pub live : {d : W.Del} → Live G d ↔ LiveBy d
    pub conveyed : {d : W.Del} {o : Option ℕ} → ConveyedIs G d o ↔ ConveyedIsBy d o
    pub standing : {d : W.Del} {o : Standing} → StandingIs G d o ↔ StandingIsBy d o
