-- An insertion as a whole: its answer and its store. Rests on AnswerLaws and NextLaws.
use Prim.Native.Nat.{ℕ, ◌+◌, ◌*◌, ◌≤◌, ◌<◌}
use mathlib.Core.Path.{◌≡◌, refl, sym, ap, ◌∙◌}
use mathlib.Core.Bool.{Bool, true, false, cond, not}
use mathlib.Core.Logic.{inl, inr}
use mathlib.Core.List.{List, [], ◌∷◌}
use native.Mathlib.Omega.{arith}
use lib.ListN.{length}
use lib.Dec.{ltb, eqb}
use borrow.Author.Tests.{eqb-true}
use Rattle.lent.specs.Bytes.{put}
use Rattle.runs.specs.Bytes.{Bytes, run_length, run_at}
use Rattle.runs.specs.Members.{place, fresh}
use Rattle.runs.specs.Table.{runs, GoodRuns, Room}
use Rattle.runs.proofs.PartLaws.{length_put, run_before, run_here}
use Rattle.runs.proofs.TableLaws.{runs_long, has_place}
use Rattle.keyline.specs.Limits.{key_limit, digest_length}
use Rattle.tables.specs.Committed.{Committed}
use Rattle.tables.specs.Insertion.{is_added, settled}
use Rattle.store.specs.Store.{committed}
use Rattle.store.specs.declared.Store.{Store}
use Rattle.insertion.proofs.KeyLaws.{KeyRoom}
use Rattle.tables.proofs.PayloadLaws.{Cited}
use Rattle.tables.specs.declared.answer.Outcome.{Outcome}
use Rattle.keyline.specs.declared.refusal.Refusal.{Refusal}
use Rattle.tables.specs.declared.answer.Outcome.TheVariants.{Added, NotAdded}
use Rattle.std.specs.Prelude.{Result, Ok, Err}

pub is_added_lem : (a : Result Outcome Refusal) → is_added a ≡ true → a ≡ (Ok Added)
is_added_lem (Ok Added) e = refl
is_added_lem (Ok NotAdded) e = let z : ◌≡◌ {A = ℕ} 0 1 = cc in absurd (omega arith)
is_added_lem (Err r) e = let z : ◌≡◌ {A = ℕ} 0 1 = cc in absurd (omega arith)

-- the certificate is added
pub added : (a : Result Outcome Refusal) (old new u : Committed) → is_added a ≡ true → u ≡ new → u ≡ settled a old new
added a old new u f e = rw f e

-- a digest that is not found goes to the end
pub room_for : (limit : ℕ) (t : Bytes) (n : ℕ) (x : Bytes) (i : ℕ) → GoodRuns limit t n → limit ≤ 128 → n < limit → length x ≡ digest_length → i ≡ place (runs t n) x → ltb i n ≡ false → Room limit t n x
room_for limit t n x i g few h l e f = record { good = g; few = few; space = h; fits = l; new = sym (has_place limit t n g x) ∙ rw (← e) f }

pub key_room : (t : Bytes) (n : ℕ) (ks : List Bytes) → GoodRuns key_limit t n → length (runs t n) + length (fresh (runs t n) ks) ≤ key_limit → KeyRoom t n ks
key_room t n ks g h = let l = runs_long key_limit t n g in omega arith

-- a column of runs with one more at n
module _ (limit n : ℕ) (column : Bytes) (long : length column ≡ run_length * limit) (room : n < limit) (x : Bytes) (fits : length x ≡ run_length) where
  pub column_long : length (put column (run_length * n) x) ≡ run_length * limit
  column_long = length_put column (run_length * n) x (omega arith) ∙ long

  pub column_before : (i : ℕ) → i < n → run_at (put column (run_length * n) x) i ≡ run_at column i
  column_before i h = run_before column (run_length * n) x (omega arith) i (omega arith)

  pub column_here : run_at (put column (run_length * n) x) n ≡ x
  column_here = run_here column n x (omega arith) fits

-- a citation, or none
abbrev pub cited_column : Bytes → ℕ → Bytes → Bytes
cited_column column n x = cond (eqb (length x) run_length) (put column (run_length * n) x) column

module _ (limit n : ℕ) (column : Bytes) (long : length column ≡ run_length * limit) (room : n < limit) (x : Bytes) where
  pub cited_long : length (cited_column column n x) ≡ run_length * limit
  cited_long = go (eqb (length x) run_length) refl
    where
      go : (t : Bool) → eqb (length x) run_length ≡ t → length (cond t (put column (run_length * n) x) column) ≡ run_length * limit
      go true e = column_long limit n column long room x (eqb-true (length x) run_length e)
      go false e = long

  pub cited_before : (i : ℕ) → i < n → run_at (cited_column column n x) i ≡ run_at column i
  cited_before i h = go (eqb (length x) run_length) refl
    where
      go : (t : Bool) → eqb (length x) run_length ≡ t → run_at (cond t (put column (run_length * n) x) column) i ≡ run_at column i
      go true e = column_before limit n column long room x (eqb-true (length x) run_length e) i h
      go false e = refl

  pub cited_here : Cited x → cond (not (eqb (length x) 0)) (run_at (cited_column column n x) n) [] ≡ x
  cited_here (inl e) = rw e (none x e)
    where
      none : (l : Bytes) → length l ≡ 0 → [] ≡ l
      none [] e = refl
      none (y ∷ l) e = absurd (omega arith)
  cited_here (inr e) = rw e (column_here limit n column long room x e)
