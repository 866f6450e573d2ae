use mathlib.Core.Path.{ap}
use lib.ListN.{get_or-eq_default}
use Rattle.tables.specs.Columns.{key_place}
use Rattle.tables.proofs.delegations.key_at.Goals as goal

pub returns-then-i-column : goal.returns-then-i-column
returns-then-i-column c = ap key_place c.from.ensures

pub returns : goal.returns
returns c = rw (get_or-eq_default c.args.column.now 0 c.if-i-column.false)
