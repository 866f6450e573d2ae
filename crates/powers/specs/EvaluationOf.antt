-- What every question needs of a store and an evaluation that it is put to. A value that keeps the two together keeps this of them.
use Rattle.store.specs.declared.Store.{Store}
use Rattle.store.specs.Store.{GoodStore}
use Rattle.evaluation.specs.declared.Evaluation.{Evaluation}
use Rattle.evaluation.specs.Result.{Evaluated}
use Rattle.answers.specs.Facts.{FactsOf}

-- the evaluation is the one of the set that the store holds
pub record EvaluationOf (s : Store) (v : Evaluation) : Type 0 where
  pub store : GoodStore s
  pub facts : FactsOf s v.facts
  pub evaluation : Evaluated v
