use Prim.Native.Nat.{ℕ}
use mathlib.Core.Path.{◌≡◌, sym, ◌∙◌}
use mathlib.Core.Bool.{Bool, cond}
use mathlib.Core.List.{List, [], ◌∷◌}
use native.Mathlib.Omega.{arith}
use lib.ListN.{length}
use Rattle.runs.specs.Bytes.{Bytes}
use Rattle.runs.specs.Members.{has, fresh}
use Rattle.runs.specs.Table.{runs}
use Rattle.runs.proofs.FreshLaws.{fresh_count, fresh_none, with_one}
use Rattle.tables.proofs.FlagLaws.{one_unless}
use Rattle.tables.proofs.keys.fresh_one.Goals as goal

one : (l : List Bytes) (k : Bytes) (t : Bool) (r : ℕ) → t ≡ has l k → r ≡ cond t 0 1 → r ≡ length (fresh l (k ∷ []))
one l k t r e f = f ∙ rw e (sym (fresh_count l k [] ∙ rw (fresh_none (with_one l k)) (omega arith)))

pub returns : goal.returns
returns c =
    one (runs c.args.table.now c.args.n) c.args.key.now c.is_held.result c.from.result c.is_held.ensures
    (c.from.ensures ∙ one_unless _)
