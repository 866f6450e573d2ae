-- The arguments are the request's.
use Rattle.keyline_memory.specs.State.{held_in, Insertion}
use Rattle.tables.specs.Insertion.{revocation_answer, revocation_added}
use Rattle.script.proofs.Parts.{as_asked}
use Rattle.script.proofs.ask.insert_revocation.Goals as goal

pub returns : goal.returns
returns c =
    as_asked c.args.q c.args.script.now c.requires.0
    (λ x y z. Insertion c.args.state.now c.insert_revocation.new.self c.insert_revocation.result (revocation_answer (held_in c.args.state.now) x y z) (revocation_added (held_in c.args.state.now) x y z))
    (record { answer = c.insert_revocation.ensures.answer; held = c.insert_revocation.ensures.held; kept = c.insert_revocation.ensures.kept })
