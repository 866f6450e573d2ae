-- `keyset::without` meets its contract: the set less that of one key, digit by digit.
use native.Mathlib.Omega.{arith}
use Rattle.keyset.proofs.Laws.{bit_le}
use Rattle.keyset.proofs.without.Goals as goal

pub returns : goal.returns
returns c = let given = c.args in (
  omega (arith, c.minus.ensures given.i, bit_le given.w given.i),
  λ j h. omega (arith, c.minus.ensures j, c.only.ensures.1 j h),
)
