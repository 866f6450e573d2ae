-- A key counts where it is neither held nor one of those before it.
use Prim.Native.Nat.{ℕ, ◌+◌}
use mathlib.Core.Path.{◌≡◌, sym, ◌∙◌}
use mathlib.Core.Bool.{Bool, cond}
use mathlib.Core.List.{List, [], ◌∷◌}
use lib.ListN.{length}
use Rattle.runs.specs.Bytes.{Bytes, eq_bytes}
use Rattle.runs.specs.Members.{has, fresh}
use Rattle.runs.specs.Table.{runs}
use Rattle.runs.proofs.BoolLaws.{or}
use Rattle.runs.proofs.FreshLaws.{fresh_three}
use Rattle.runs.proofs.TestLaws.{eq_is}
use Rattle.tables.proofs.FlagLaws.{one_unless, or_first, or_second}
use Rattle.tables.proofs.keys.fresh_three.Goals as goal
use Rattle.tables.proofs.keys.fresh_three.Goals.{then-is_held, else-is_held, then-is_held-2, else-is_held-2, then-eq, else-eq}

module _ (l : List Bytes) (a b c : Bytes) where
  three : (x y z : Bool) (p q r : ℕ) → x ≡ has l a → y ≡ or (has l b) (eq_bytes a b) → z ≡ or (or (has l c) (eq_bytes a c)) (eq_bytes b c)
      → p ≡ cond x 0 1 → q ≡ cond y 0 1 → r ≡ cond z 0 1 → p + q + r ≡ length (fresh l (a ∷ b ∷ c ∷ []))
  three x y z p q r e f g i j k = rw (i, j, k, e, f, g) (sym (fresh_three l a b c))

pub returns : goal.returns
returns c =
    let a = c.args in
    let h = has (runs a.table.now a.n) in
    let y : c.if-is_held.y ≡ or (h a.b.now) (eq_bytes a.a.now a.b.now) =
    elim c.if-is_held.branch [
      | then-is_held w ↦ or_first _ w.y-is w.if-is_held.true c.is_held.ensures
      | else-is_held w ↦ or_second w.y-is w.if-is_held.false c.is_held.ensures (w.eq-y.ensures ∙ eq_is _ _)
    ] in
    let v : c.if-is_held-2.value ≡ or (h a.c.now) (eq_bytes a.a.now a.c.now) =
    elim c.if-is_held-2.branch [
      | then-is_held-2 w ↦ or_first _ w.value-is w.if-is_held-2.true c.is_held-2.ensures
      | else-is_held-2 w ↦ or_second w.value-is w.if-is_held-2.false c.is_held-2.ensures (w.eq.ensures ∙ eq_is _ _)
    ] in
    let z : c.if-eq.z ≡ or (or (h a.c.now) (eq_bytes a.a.now a.c.now)) (eq_bytes a.b.now a.c.now) =
    elim c.if-eq.branch [
      | then-eq w ↦ or_first _ w.z-is w.if-eq.true v
      | else-eq w ↦ or_second w.z-is w.if-eq.false v (w.eq-z.ensures ∙ eq_is _ _)
    ] in
    three (runs a.table.now a.n) a.a.now a.b.now a.c.now c.is_held-x.result c.if-is_held.y c.if-eq.z c.from.result c.from-2.result c.from-3.result
    c.is_held-x.ensures y z (c.from.ensures ∙ one_unless _) (c.from-2.ensures ∙ one_unless _) (c.from-3.ensures ∙ one_unless _)
