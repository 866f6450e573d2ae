-- `keyset::minus` meets its contract.
use Rattle.keyset.proofs.Laws.{bit_minus}
use Rattle.keyset.proofs.minus.Goals as goal

pub returns : goal.returns
returns c j = bit_minus c.args.a c.args.b j
