-- Where a run that was looked for stands, or that it does not.
use Prim.Native.Nat.{ℕ, ◌<◌, ◌≤◌}
use mathlib.Core.Path.{◌≡◌, sym, ◌∙◌}
use mathlib.Core.Bool.{false}
use mathlib.Core.List.{[]}
use native.Mathlib.Omega.{arith}
use lib.ListN.{length}
use Rattle.runs.specs.Bytes.{Bytes, run_at}
use Rattle.runs.specs.Members.{has, place}
use Rattle.runs.specs.Table.{runs, GoodRuns}
use Rattle.runs.proofs.MemberLaws.{get_or_place, end_not}
use Rattle.runs.proofs.TableLaws.{runs_long, runs_at}

module _ (limit : ℕ) (t : Bytes) (n : ℕ) (g : GoodRuns limit t n) (x : Bytes) (i : ℕ) (e : i ≡ place (runs t n) x) where
  pub stands_there : i < n → run_at t i ≡ x
  stands_there h =
      let l = runs_long limit t n g in
      let k : place (runs t n) x < length (runs t n) = omega arith in
      sym (runs_at limit t n g i h) ∙ (rw e (get_or_place (runs t n) x [] k))

  pub stands_nowhere : n ≤ i → has (runs t n) x ≡ false
  stands_nowhere h = let l = runs_long limit t n g in end_not (runs t n) x (omega arith)
