-- What is answered was compared.
use mathlib.Core.Path.{sym, ◌∙◌}
use Rattle.runs.proofs.ByteLaws.{eq_true}
use Rattle.hints.proofs.look.Goals as goal

pub returns-then-same : goal.returns-then-same
returns-then-same c = (c.if-i-n.true, eq_true _ _ (sym c.same.ensures ∙ c.if-same.true))
