-- `keyset::has` meets its contract.
use mathlib.Core.Path.{refl}
use Rattle.keyset.specs.Word.{bit}
use Rattle.keyset.proofs.has.Goals as goal

pub returns : goal.returns
unfolding bit
returns c = refl
