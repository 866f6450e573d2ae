-- `keyset::meet` meets its contract.
use Rattle.keyset.proofs.Laws.{bit-and}
use Rattle.keyset.proofs.meet.Goals as goal

pub returns : goal.returns
returns c j = bit-and c.args.a c.args.b j
