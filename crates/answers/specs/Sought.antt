-- Where what a query is asked about stands in the tables. Internal: contracts of public calls speak of bytes.
use Rattle.std.specs.Prelude.{ℕ, ◌<◌, ◌≡◌, false, length, Result, Ok, Err, Option, Some, None}
use Rattle.keyline.specs.Limits.{key_length, digest_length}
use Rattle.keyline.specs.declared.refusal.Refusal.TheVariants.{BadLength}
use Rattle.places.specs.declared.KeyPlace.{KeyPlace}
use Rattle.places.specs.declared.DelegationPlace.{DelegationPlace}
use Rattle.runs.specs.Bytes.{Bytes, run_at}
use Rattle.runs.specs.Members.{has}
use Rattle.runs.specs.Table.{runs}
use Rattle.answers.specs.declared.sought.Pair.{Pair}
use Rattle.keyline.specs.declared.refusal.Refusal.{Refusal}
use Rattle.answers.specs.declared.sought.Pair.TheVariants as pair

pub data PairOf (t : Bytes) (n : ℕ) (s x : Bytes) : Result Pair Refusal → Type 0 where
  subject-length : ¬ (length s ≡ key_length) → PairOf t n s x (Err (BadLength (length s)))
  audience-length : length s ≡ key_length → ¬ (length x ≡ key_length) → PairOf t n s x (Err (BadLength (length x)))
  same : length s ≡ key_length → length x ≡ key_length → s ≡ x → PairOf t n s x (Ok pair.Same)
  no_subject : length s ≡ key_length → length x ≡ key_length → ¬ (x ≡ s) → has (runs t n) s ≡ false → PairOf t n s x (Ok pair.Unheld)
  no_audience : length s ≡ key_length → length x ≡ key_length → ¬ (x ≡ s) → has (runs t n) x ≡ false → PairOf t n s x (Ok pair.Unheld)
  held : {i j : KeyPlace} → length s ≡ key_length → length x ≡ key_length → i.0 < n → run_at t i.0 ≡ s → j.0 < n → run_at t j.0 ≡ x
      → PairOf t n s x (Ok (pair.At i j))

pub data KeyOf (t : Bytes) (n : ℕ) (s : Bytes) : Result (Option KeyPlace) Refusal → Type 0 where
  wrong_length : ¬ (length s ≡ key_length) → KeyOf t n s (Err (BadLength (length s)))
  unheld : length s ≡ key_length → has (runs t n) s ≡ false → KeyOf t n s (Ok None)
  held : {i : KeyPlace} → length s ≡ key_length → i.0 < n → run_at t i.0 ≡ s → KeyOf t n s (Ok (Some i))

pub data DelegationOf (t : Bytes) (n : ℕ) (x : Bytes) : Result (Option DelegationPlace) Refusal → Type 0 where
  wrong_length : ¬ (length x ≡ digest_length) → DelegationOf t n x (Err (BadLength (length x)))
  unheld : length x ≡ digest_length → has (runs t n) x ≡ false → DelegationOf t n x (Ok None)
  held : {d : DelegationPlace} → length x ≡ digest_length → d.0 < n → run_at t d.0 ≡ x → DelegationOf t n x (Ok (Some d))
