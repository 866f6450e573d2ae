-- Demand 3 of stores: any two that insertions built (all that the invariant asks), whose closures of a key list the same certificates, give
-- the same answers (`stores_agree`). Idea: the digests of a table are apart, so a digest names one delegation.
use mathlib.Core.Path.{◌≡◌, sym, ◌∙◌, ap}
use Rattle.runs.specs.Bytes.{Bytes, run_at}
use Rattle.runs.proofs.TableLaws.{found_at}
use Rattle.keyline.specs.Limits.{delegation_limit}
use Rattle.tables.specs.Columns.{delegation_at}
use Rattle.store.specs.Store.{committed, GoodStore}
use Rattle.store.specs.Parts.{holds}
use Rattle.store.specs.declared.Store.{Store}
use Rattle.answers.specs.OneClosure.{Apart, OneClosure, SameAnswers}
use Rattle.answers.proofs.OneClosure.{demand_3}
use Rattle.answers.proofs.Places.{tabulate_out}

pub apart : (s : Store) → GoodStore s → Apart (committed s)
unfolding holds
apart s g d e m n q =
    let v = delegation_at s.keys.table s.delegations in
    let t = tabulate_out v s.delegations.count m in
    let u = tabulate_out v s.delegations.count n in
    let a : run_at s.delegations.digests t.at ≡ e.digest = ap (λ x. x.digest) t.is ∙ q in
    let b : run_at s.delegations.digests u.at ≡ e.digest = ap (λ x. x.digest) u.is in
    let i = found_at delegation_limit s.delegations.digests s.delegations.count g.delegations.digests e.digest t.at t.within a in
    let j = found_at delegation_limit s.delegations.digests s.delegations.count g.delegations.digests e.digest u.at u.within b in
    sym t.is ∙ (ap v (i ∙ sym j) ∙ u.is)

pub stores_agree : (s t : Store) → GoodStore s → GoodStore t → (k : Bytes) → OneClosure (committed s) (committed t) k → SameAnswers (committed s) (committed t) k
stores_agree s t g h k one = demand_3 (committed s) (committed t) k (apart s g) (apart t h) one
