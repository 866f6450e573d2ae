-- `Evaluation::nodes` meets its contract: a subject's word at the lowest level; over another key only the key itself stands.
use Rattle.search.proofs.Laws.Sets.{is_in, not_in}
use Rattle.evaluation.proofs.Laws.Ask.{nodes_found, node_itself}
use Rattle.evaluation.proofs.Evaluation.nodes.Goals as goal

pub returns-then-has : goal.returns-then-has
returns-then-has c =
    let k = is_in c.args.self.now.subjects c.args.subject.0 c.has.result c.has.ensures c.if-has.true in
    nodes_found c.requires.0 k (c.requires.0.reach c.args.subject.0 c.requires.1)

pub returns : goal.returns
returns c =
    node_itself c.requires.0 (not_in c.args.self.now.subjects c.args.subject.0 c.has.result c.has.ensures c.if-has.false) c.only.ensures.0 c.only.ensures.1
