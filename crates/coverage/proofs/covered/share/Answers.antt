-- `coverage::covered::share` meets its contract: the words share a key where their meet has a member.
use Prim.Native.Nat.{ℕ}
use mathlib.Core.Path.{ap, ◌∙◌}
use native.Mathlib.Omega.{arith}
use borrow.Author.Tests.{eqb-true, eqb-false, not-true, not-false}
use lib.Dec.{eqb}
use Rattle.keyset.specs.Word.{bit}
use Rattle.keyset.proofs.Laws.{bit_le, bit_none, some_member}
use Rattle.coverage.proofs.covered.share.Goals as goal

pub returns : goal.returns
returns c = record {
  yes = λ e.
      let m = some_member c.meet.result (omega (arith, c.meet.type_inv)) (eqb-false c.meet.result 0 (not-true (eqb c.meet.result 0) e)) in
      let q = c.meet.ensures m.0 in
      record { key = m.0; left = omega (arith, m.2, bit_le c.args.a m.0); right = omega (arith, m.2, bit_le c.args.b m.0) };
  no = λ e s.
      let z = ap (λ (y : ℕ). bit y s.key) (eqb-true c.meet.result 0 (not-false (eqb c.meet.result 0) e)) ∙ bit_none s.key in
      let q = c.meet.ensures s.key in omega (arith, s.left, s.right);
}
