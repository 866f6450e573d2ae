-- What a State stands for: the certificates that it holds. Contracts speak of them alone. That it was made by `new` and insertions, the type of
-- its store says.
use Rattle.std.specs.Prelude.{◌≡◌, false, Result}
use Rattle.keyline.specs.declared.refusal.Refusal.{Refusal}
use Rattle.tables.specs.Committed.{Committed}
use Rattle.tables.specs.Insertion.{is_added, settled}
use Rattle.tables.specs.declared.answer.Outcome.{Outcome}
use Rattle.store.specs.Store.{committed}
use Rattle.keyline_memory.specs.declared.state.State.{State}

abbrev pub held_in : State → Committed
held_in s = committed s.store

-- an insertion that answers r turned s into t, where a is what it has to answer: where that is Added, the set holds `new`, and else it is as it was
pub record Insertion (s t : State) (r a : Result Outcome Refusal) (new : Committed) : Type 0 where
  pub answer : r ≡ a
  pub held : held_in t ≡ settled r (held_in s) new
  pub kept : is_added r ≡ false → t ≡ s
