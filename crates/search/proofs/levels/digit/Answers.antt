-- `search::levels::digit` meets its contract: what `has` says, as a number.
use mathlib.Core.Path.{sym}
use Rattle.search.proofs.Laws.Sets.{not_in}
use Rattle.search.proofs.levels.digit.Goals as goal

pub returns-else-has : goal.returns-else-has
returns-else-has c = sym (not_in c.args.w c.args.i c.has.result c.has.ensures c.if-has.false)
