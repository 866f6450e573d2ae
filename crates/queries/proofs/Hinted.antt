-- From a hint that was right to what was sought: the run at its place is the one that was asked about, and that is all that a search could say.
use Prim.Native.Nat.{ℕ, ◌*◌, ◌≤◌, ◌<◌}
use mathlib.Core.Path.{◌≡◌, sym, ap, ◌∙◌}
use native.Mathlib.Omega.{arith}
use lib.ListN.{length}
use Rattle.places.specs.declared.KeyPlace.{KeyPlace}
use Rattle.places.specs.declared.DelegationPlace.{DelegationPlace}
use Rattle.runs.specs.Bytes.{Bytes, run_length, run_at}
use Rattle.runs.specs.Table.{GoodRuns}
use Rattle.runs.proofs.ByteLaws.{length_run}
use Rattle.answers.specs.Sought as found
use Rattle.answers.specs.Sought.{PairOf, DelegationOf}
use Rattle.answers.specs.declared.sought.Pair.TheVariants.{At}
use Rattle.std.specs.Prelude.{Ok, Some}

module _ {limit n : ℕ} {t : Bytes} (g : GoodRuns limit t n) where
  pub fits : run_length * n ≤ length t
  fits = let r = g.room in let l = g.long in omega arith

  is_run : {i : ℕ} {x : Bytes} → i < n → run_at t i ≡ x → length x ≡ run_length
  is_run {i} h e = sym (ap (λ (b : Bytes). length b) e) ∙ length_run t i (let f = fits in omega arith)

  pub hinted_delegation : {d : DelegationPlace} {x : Bytes} → d.0 < n → run_at t d.0 ≡ x → DelegationOf t n x (Ok (Some d))
  hinted_delegation h e = found.held (is_run h e) h e

  pub hinted_pair : {i j : KeyPlace} {s x : Bytes} → i.0 < n → j.0 < n → run_at t i.0 ≡ s → run_at t j.0 ≡ x → PairOf t n s x (Ok (At i j))
  hinted_pair h k e f = found.held (is_run h e) (is_run k f) h e k f
