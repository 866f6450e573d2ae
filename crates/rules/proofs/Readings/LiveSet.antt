-- The live set by a reading, as Evaluation/LiveSet has it for Rules: it has what is reached through it (`in_by`) and is contained in every
-- set that has that (`induct_by`).
use Prim.Native.Nat.{ℕ}
use mathlib.Core.Logic.{◌⊎◌, ⊎_map}
use native.Mathlib.Omega.{arith}
use Rattle.rules.specs.Rules.{Shape, Graph, Reached}
use Rattle.rules.specs.Readings.{Reading, UncoveredBy, LiveCoveredBy, joins_by, UsableBy}
use Rattle.rules.proofs.Derivations.Answers.{AtLeast, just, enough}
use Rattle.rules.proofs.Derivations.Monotone.{widen}
use Rattle.rules.proofs.Evaluation.LiveSet.{finite}

module _ {W : Shape} {G : Graph W} {R : Reading W} where
  pub in_by : {d : W.Del} {l : ℕ} → R.Joins d → Reached G (UsableBy G R) d l → LiveCoveredBy G R d
  in_by e s = let f = finite s in joins_by f.used e f.each f.stands.holds

  pub induct_by : (P : W.Del → Type 0)
      → ((d : W.Del) (l : ℕ) → R.Joins d → Reached G (λ e. UncoveredBy G R e ⊎ (LiveCoveredBy G R e × P e)) d l → P d)
      → {d : W.Del} → LiveCoveredBy G R d → P d
  induct_by P step (joins_by {d} es e m s) =
      step d _ e (widen (λ e. ⊎_map (λ u. u) (λ k. (m e k, induct_by P step (m e k)))) (just s)).holds

  pub joined : {d : W.Del} → LiveCoveredBy G R d → R.Joins d
  joined (joins_by es e m s) = e

  pub reached_by : {d : W.Del} → LiveCoveredBy G R d → AtLeast (Reached G (UsableBy G R) d) 0
  reached_by (joins_by es e m s) = enough (widen (λ e. ⊎_map (λ u. u) (m e)) (just s)) (omega arith)
