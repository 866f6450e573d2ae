-- `keyset::only` meets its contract: the shift does not lose the one digit, and the laws of 2 ^ i say the rest.
use Rattle.keyset.proofs.Laws.{one_bit, bit_one_same, bit_one_other}
use Rattle.keyset.proofs.only.Goals as goal

pub returns : goal.returns
returns c = let i = c.args.i in rw (one_bit i c.requires) (bit_one_same i, bit_one_other i)
