-- `caps::cap_round` meets its contract. The loop's invariant: the living members of the first c contexts are raised.
use native.Mathlib.Omega.{arith}
use lib.ListN.{get_or}
use Rattle.keyset.proofs.Laws.{bit_le}
use Rattle.search.specs.Delegations.{graph_of}
use Rattle.coverage.proofs.Laws.Flags.{bit_zero}
use Rattle.caps.proofs.Laws.Caps.{lifted_none, lifted_skip, lifted_more}
use Rattle.caps.proofs.cap_round.Goals.{then-m-ne0, else-m-ne0}
use Rattle.caps.proofs.cap_round.Goals as goal

pub loop-c-init : goal.loop-c-init
loop-c-init c =
    let a = c.args in
    lifted_none (graph_of a.delegations.now 0) a.facts.now.power a.facts.now.target a.living a.contexts.now.exclude a.contexts.now.members

pub cap_context-requires-clause-within : goal.cap_context-requires-clause-within
cap_context-requires-clause-within c = λ j b. c.requires.within j (omega (arith, c.meet-m.ensures j, bit_le c.args.living j))

pub loop-c-preserved : goal.loop-c-preserved
loop-c-preserved c =
    let a = c.args in
    let l = c.loop-c in
    let G = graph_of a.delegations.now 0 in
    let exclude = a.contexts.now.exclude in
    let members = a.contexts.now.members in
    let is = c.meet-m.ensures in
    elim c.if-m-ne0.branch [
      | then-m-ne0 w ↦
          rw w.next-is
          (lifted_more G a.facts.now.power a.facts.now.target a.living l.c exclude members l.next l.invariant c.meet-m.result
          c.loop-c-test.true c.requires.agreeing
          (λ j b. (omega (arith, is j, bit_le (get_or members l.c 0) j), omega (arith, is j, bit_le a.living j)))
          (λ j p q. omega (arith, is j)) _ w.cap_context.ensures)
      | else-m-ne0 w ↦
          rw w.next-is
          (lifted_skip G a.facts.now.power a.facts.now.target a.living l.c exclude members l.next l.invariant
          (λ j p q. bit_zero c.meet-m.result j w.if-m-ne0.false (omega (arith, is j))))
    ]
