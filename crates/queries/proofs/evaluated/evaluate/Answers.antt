-- `evaluate` meets its contract: the facts are the store's, and the evaluation is of those facts.
use mathlib.Core.Path.{◌≡◌, refl, subst, sym}
use Rattle.store.specs.declared.Store.{Store}
use Rattle.coverage.specs.declared.Facts.{Facts}
use Rattle.answers.specs.Facts.{FactsOf}
use Rattle.queries.proofs.evaluated.evaluate.Goals as goal

facts_kept : {s : Store} {e f : Facts} → f ≡ e → FactsOf s e → FactsOf s f
facts_kept {s} same of = subst (λ f. FactsOf s f) (sym same) of

pub returns : goal.returns
returns c = (
  record {
    store = c.args.store.now.good;
    facts = facts_kept c.evaluate-evaluation.ensures.0 c.facts-facts.ensures.1;
    evaluation = c.evaluate-evaluation.ensures.1;
  },
  refl,
)
