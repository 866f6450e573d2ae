use mathlib.Core.Path.{sym, ◌∙◌}
use Rattle.tables.specs.Committed.{same_revoked}
use Rattle.tables.proofs.answer.same_revoked.Goals as goal

pub returns-then-not-same_at : goal.returns-then-not-same_at
unfolding same_revoked
returns-then-not-same_at c = rw (sym c.same_at.ensures ∙ c.if-not-same_at.true)

pub returns : goal.returns
unfolding same_revoked
returns c = rw (sym c.same_at.ensures ∙ c.if-not-same_at.false) c.same_at-2.ensures
