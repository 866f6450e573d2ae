-- `live_set::live_set` meets its contract. The loop's invariant: what is usable and what waits (`Usables`). Each round that is not the last takes from
-- those that wait, and at the last the usable ones are the live ones.
use native.Mathlib.Omega.{arith}
use Rattle.coverage.proofs.Laws.Seek.{ready, found_over}
use Rattle.live_set.proofs.Laws.Live.{usables_start, usables_next, grades_usable, waiting_less, starts}
use Rattle.live_set.proofs.live_set.Goals as goal

pub loop-grades-init : goal.loop-grades-init
loop-grades-init c =
    let a = c.args in
    let p = c.requires in
    usables_start a.facts.now a.excluded.now a.facts.now.fit p.revokers_by.1 p.revokers_by.0 c.plain-grades.ensures c.eligibles-waiting.ensures

pub invariant_of-delegations : goal.invariant_of-delegations
invariant_of-delegations c =
    let a = c.args in
    let f = a.facts.now in
    let p = c.requires in
    let l = c.loop-grades in record {
      ready = ready f l.grades 0 f.fit (grades_usable f a.excluded.now f.fit p.revokers_by.1 l.grades l.waiting l.invariant) p.indexed p.subjects;
    }

pub returns-then-newly-eq0 : goal.returns-then-newly-eq0
returns-then-newly-eq0 c =
    let a = c.args in
    let s = a.contexts.now in
    let p = c.requires in
    let l = c.loop-grades in
    starts a.facts.now a.excluded.now a.facts.now.fit p.revokers_by.1 l.grades l.waiting l.invariant s.count s.exclude s.members p.grouped
    c.live_round-newly.result c.live_round-newly.ensures.word c.if-newly-eq0.true p.subjects (found_over a.facts.now l.grades 0 c.live_round-newly.ensures.found) c.settled.ensures

pub loop-grades-smaller : goal.loop-grades-smaller
loop-grades-smaller c =
    let a = c.args in
    let s = a.contexts.now in
    let p = c.requires in
    let l = c.loop-grades in
    waiting_less a.facts.now a.excluded.now a.facts.now.fit p.revokers_by.1 l.grades l.waiting l.invariant s.count s.exclude s.members p.grouped
    c.live_round-newly.result c.live_round-newly.ensures.word _ c.join.ensures c.minus-waiting.result c.minus-waiting.ensures (omega (arith, c.live_round-newly.type_inv)) c.if-newly-eq0.false

pub loop-grades-preserved : goal.loop-grades-preserved
loop-grades-preserved c =
    let a = c.args in
    let s = a.contexts.now in
    let p = c.requires in
    let l = c.loop-grades in
    usables_next a.facts.now a.excluded.now a.facts.now.fit p.revokers_by.1 l.grades l.waiting l.invariant s.count s.exclude s.members p.grouped
    c.live_round-newly.result c.live_round-newly.ensures.word _ c.join.ensures c.minus-waiting.result c.minus-waiting.ensures
