-- What an Evaluated stands for, and what holds of every one: `evaluate` ensures it, and with private fields nobody else can make one.
-- Contracts speak of the committed set alone.
use Rattle.tables.specs.Committed.{Committed}
use Rattle.store.specs.Store.{committed}
use Rattle.powers.specs.EvaluationOf.{EvaluationOf}
use Rattle.queries.specs.declared.evaluated.Evaluated.{Evaluated}

abbrev pub held_by : Evaluated → Committed
held_by v = committed v.store

-- the evaluation is the one of the set that it belongs to
abbrev pub GoodEvaluated : Evaluated → Type 0
GoodEvaluated v = EvaluationOf v.store v.evaluation
