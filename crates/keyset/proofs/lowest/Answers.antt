-- `keyset::lowest` meets its contract.
use native.Mathlib.Omega.{arith}
use Rattle.keyset.specs.Word.{width}
use Rattle.keyset.proofs.Laws.{trailing_lowest}
use Rattle.keyset.proofs.lowest.Goals as goal

pub overflow_cast-result : goal.overflow_cast-result
overflow_cast-result c = omega (arith, (trailing_lowest width c.args.w c.requires c.ranges.w.fits).0)

pub returns : goal.returns
returns c = trailing_lowest width c.args.w c.requires c.ranges.w.fits
