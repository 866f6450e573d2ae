-- `keyset::count` meets its contract.
use native.Mathlib.Omega.{arith}
use Rattle.keyset.specs.Word.{width}
use Rattle.keyset.proofs.Laws.{ones_size, size_le}
use Rattle.keyset.proofs.count.Goals as goal

pub overflow_cast-result : goal.overflow_cast-result
overflow_cast-result c = omega (arith, ones_size width c.args.w c.ranges.w.fits, size_le width c.args.w)

pub returns : goal.returns
returns c = ones_size width c.args.w c.ranges.w.fits
