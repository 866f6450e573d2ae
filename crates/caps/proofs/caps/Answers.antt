-- `caps::caps` meets its contract. The loop's invariant: no cap is above the least levels (`Rising`). A round that is not the last raises a grade, and at
-- the last the grades are the caps.
use mathlib.Core.Path.{sym, ◌∙◌}
use Rattle.std.specs.Cmp.Lexicographic.{same_text, other_text}
use Rattle.coverage.proofs.Laws.Seek.{ready}
use Rattle.caps.proofs.Laws.Rise.{room_less}
use Rattle.caps.proofs.Laws.Caps.{rising_next, rises, grades_live, Living, living_is, capped}
use Rattle.caps.proofs.caps.Goals.{After-living-alive}
use Rattle.caps.proofs.caps.Goals as goal

-- those that live
alive-is : (c : After-living-alive) → Living c.args.facts.now c.args.excluded.now c.living-alive.result
alive-is c = living_is c.requires.starts.lives c.living-alive.ensures

pub invariant_of-delegations : goal.invariant_of-delegations
invariant_of-delegations c =
    let f = c.args.facts.now in
    let p = c.requires in
    let l = c.loop-next in record {
      ready = ready f l.grades 0 f.fit (grades_live f.fit l.invariant.lives) p.indexed p.subjects;
    }

pub loop-next-smaller : goal.loop-next-smaller
loop-next-smaller c =
    let f = c.args.facts.now in
    let s = c.args.contexts.now in
    let p = c.requires in
    let l = c.loop-next in
    let alive = alive-is (goal.at.loop-next-smaller c).After-living-alive in
    let up = rises f c.args.excluded.now f.fit p.nets.0 s.count s.exclude s.members p.nets.1 c.living-alive.result alive
    l.grades l.invariant c.cap_round-next.result c.cap_round-next.ensures in
    let next = rising_next f c.args.excluded.now f.fit p.nets.0 s.count s.exclude s.members p.nets.1 c.living-alive.result alive
    l.grades l.invariant c.cap_round-next.result c.cap_round-next.ensures in
    room_less l.grades c.cap_round-next.result l.invariant.lives.len next.lives.len up (grades_live f.fit next.lives).le
    (other_text c.cap_round-next.result l.grades (sym c.if-eq.false ∙ c.eq.ensures))

pub loop-next-preserved : goal.loop-next-preserved
loop-next-preserved c =
    let f = c.args.facts.now in
    let s = c.args.contexts.now in
    let p = c.requires in
    let l = c.loop-next in
    rising_next f c.args.excluded.now f.fit p.nets.0 s.count s.exclude s.members p.nets.1 c.living-alive.result
    (alive-is (goal.at.loop-next-preserved c).After-living-alive)
    l.grades l.invariant c.cap_round-next.result c.cap_round-next.ensures

pub returns-then-eq : goal.returns-then-eq
returns-then-eq c =
    let f = c.args.facts.now in
    let s = c.args.contexts.now in
    let p = c.requires in
    let l = c.loop-next in
    capped f c.args.excluded.now f.fit p.nets.0 s.count s.exclude s.members p.nets.1 c.living-alive.result
    (alive-is (goal.at.returns-then-eq c).After-living-alive)
    l.grades l.invariant c.cap_round-next.result c.cap_round-next.ensures (same_text c.cap_round-next.result l.grades (sym c.if-eq.true ∙ c.eq.ensures))
