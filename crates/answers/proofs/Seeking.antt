-- What was sought of one key, case by case: a wrong length, a key that is not held, a place.
use Prim.Native.Nat.{ℕ, ◌<◌}
use mathlib.Core.Path.{◌≡◌, subst}
use mathlib.Core.Bool.{false}
use native.Mathlib.Omega.{arith}
use lib.ListN.{length}
use Rattle.keyline.specs.Limits.{key_length}
use Rattle.keyline.specs.declared.refusal.Refusal.{Refusal}
use Rattle.keyline.specs.declared.refusal.Refusal.TheVariants.{BadLength}
use Rattle.places.specs.declared.KeyPlace.{KeyPlace}
use Rattle.runs.specs.Bytes.{Bytes, run_at}
use Rattle.runs.specs.Members.{has}
use Rattle.runs.specs.Table.{runs}
use Rattle.answers.proofs.Cases.{same_why}
use Rattle.answers.specs.Sought as found
use Rattle.answers.specs.Sought.{KeyOf}
use Rattle.std.specs.Prelude.{Result, Ok, Err, Option, Some, None}

pub record AtKey (t : Bytes) (n : ℕ) (s : Bytes) (i : KeyPlace) : Type 0 where
  pub long : length s ≡ key_length
  pub within : i.0 < n
  pub is : run_at t i.0 ≡ s

pub record NoKey (t : Bytes) (n : ℕ) (s : Bytes) : Type 0 where
  pub long : length s ≡ key_length
  pub absent : has (runs t n) s ≡ false

-- a wrong length, in any statement that begins with it
pub key_refused : {t : Bytes} {n : ℕ} {s : Bytes} {r : Result (Option KeyPlace) Refusal} {why : Refusal} (S : Refusal → Type 0) → (¬ (length s ≡ key_length) → S (BadLength (length s)))
    → KeyOf t n s r → r ≡ Err why → S why
key_refused S f (found.wrong_length h) e = subst S (same_why e) (f h)
key_refused S f (found.unheld h q) e = let z : ◌≡◌ {A = ℕ} 0 1 = cc in absurd (omega arith)
key_refused S f (found.held h p q) e = let z : ◌≡◌ {A = ℕ} 0 1 = cc in absurd (omega arith)

pub key_unheld : {t : Bytes} {n : ℕ} {s : Bytes} {r : Result (Option KeyPlace) Refusal} → KeyOf t n s r → r ≡ (Ok None) → NoKey t n s
key_unheld (found.wrong_length h) e = let z : ◌≡◌ {A = ℕ} 0 1 = cc in absurd (omega arith)
key_unheld (found.unheld h q) e = record { long = h; absent = q }
key_unheld (found.held h p q) e = let z : ◌≡◌ {A = ℕ} 0 1 = cc in absurd (omega arith)

pub key_at : {t : Bytes} {n : ℕ} {s : Bytes} {r : Result (Option KeyPlace) Refusal} {i : KeyPlace} → KeyOf t n s r → r ≡ Ok (Some i) → AtKey t n s i
key_at (found.wrong_length h) e = let z : ◌≡◌ {A = ℕ} 0 1 = cc in absurd (omega arith)
key_at (found.unheld h q) e = let z : ◌≡◌ {A = ℕ} 0 1 = cc in absurd (omega arith)
key_at {i = i} (found.held {i = a} h p q) e = let f : a ≡ i = cc in record { long = h; within = rw f at p; is = rw f at q }
