-- `keyset::union` meets its contract.
use Rattle.keyset.proofs.Laws.{bit-or}
use Rattle.keyset.proofs.union.Goals as goal

pub returns : goal.returns
returns c j = bit-or c.args.a c.args.b j
