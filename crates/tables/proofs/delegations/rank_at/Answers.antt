use mathlib.Core.Path.{sym}
use lib.ListN.{get_or-eq_default}
use Rattle.tables.proofs.delegations.rank_at.Goals as goal

pub returns : goal.returns
returns c = sym (get_or-eq_default c.args.column.now 0 c.if-i-column.false)
