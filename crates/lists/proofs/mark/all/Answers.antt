use mathlib.Core.Path.{refl}
use mathlib.Core.Bool.{true, false}
use lib.ListN.{get_or-replicate}
use Rattle.keyline.specs.Limits.{delegation_limit}
use Rattle.lists.proofs.mark.all.Goals as goal

pub returns : goal.returns
returns c = (refl, λ i h. get_or-replicate delegation_limit i true false h)
