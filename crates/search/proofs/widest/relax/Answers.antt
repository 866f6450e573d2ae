-- `search::widest::relax` meets its contract: the audience joins one word, unless it is excluded or the delegation is not usable.
use Prim.Native.Nat.{◌<◌, ◌-◌, min, pred}
use mathlib.Core.Path.{◌≡◌, sym, ap, ◌∙◌}
use native.Mathlib.Omega.{arith}
use native.Mathlib.Decide.{ℕ_discrete}
use lib.ListN.{length}
use Rattle.keyset.specs.Word.{bit}
use Rattle.keyset.proofs.Laws.{bit_le}
use Rattle.search.specs.Walk.{Relaxed}
use Rattle.search.proofs.Laws.Sets.{one_member}
use Rattle.search.proofs.Laws.Grow.{grown_iff, grown_set}
use Rattle.search.proofs.widest.relax.Goals as goal

pub returns-then-grade-ne0 : goal.returns-then-grade-ne0
returns-then-grade-ne0 c =
    let a = c.args in
    let lt : c.min-l.result < length a.buckets.now = omega (arith, c.min-l.ensures) in
    grown_iff (Relaxed a.v a.grade a.audience a.exclude)
    (grown_set a.buckets.now c.min-l.result c.minus-one.result c.union.result lt c.union.ensures)
    (λ m x t.
    let q = c.minus-one.ensures x in
    let x-is : x ≡ a.audience = one_member c.only.result c.from-then-grade-ne0.result x c.only.ensures.1 (ℕ_discrete x c.from-then-grade-ne0.result) (omega (arith, t.1, bit_le c.only.result x)) ∙ c.from-then-grade-ne0.ensures in
    record {
      usable = omega (arith, c.if-grade-ne0.true);
      free = ap (bit a.exclude) (sym x-is) ∙ (let z : bit a.exclude x ≡ 0 = omega (arith, t.1, bit_le c.only.result x) in z);
      is_m = t.0 ∙ c.min-l.ensures ∙ ap (min a.v) (c.from.ensures ∙ (let z : a.grade - 1 ≡ pred a.grade = omega arith in z));
      is_x = x-is;
    })
    (λ m x t. (
      t.is_m ∙ ap (min a.v) ((let z : pred a.grade ≡ a.grade - 1 = omega arith in z) ∙ sym c.from.ensures) ∙ sym c.min-l.ensures,
      ap (bit c.minus-one.result) (t.is_x ∙ sym c.from-then-grade-ne0.ensures)
          ∙ (let z : bit c.minus-one.result c.from-then-grade-ne0.result ≡ 1 = omega (arith, c.minus-one.ensures c.from-then-grade-ne0.result, c.only.ensures.0, ap (bit a.exclude) c.from-then-grade-ne0.ensures, t.free) in z),
    ))
