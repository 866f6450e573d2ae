use borrow.Author.Tests.{eq-eqb, ne_eqb}
use Rattle.tables.proofs.delegations.put_citation.Goals as goal

pub returns-then-citation-eq-RUN_LENGTH : goal.returns-then-citation-eq-RUN_LENGTH
returns-then-citation-eq-RUN_LENGTH c = rw (eq-eqb _ _ c.if-citation-eq-RUN_LENGTH.true) c.put_run.ensures

pub returns-else-citation-eq-RUN_LENGTH : goal.returns-else-citation-eq-RUN_LENGTH
returns-else-citation-eq-RUN_LENGTH c = rw (ne_eqb _ _ c.if-citation-eq-RUN_LENGTH.false)
