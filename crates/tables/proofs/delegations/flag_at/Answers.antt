use mathlib.Core.Path.{sym}
use mathlib.Core.Bool.{false}
use lib.ListN.{get_or-eq_default}
use Rattle.tables.proofs.delegations.flag_at.Goals as goal

pub returns : goal.returns
returns c = sym (get_or-eq_default c.args.column.now false c.if-i-column.false)
