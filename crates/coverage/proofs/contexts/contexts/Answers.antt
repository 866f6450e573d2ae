-- `coverage::contexts::contexts` meets its contract. The loop's invariant: the contexts of the first j revocations stand.
use Prim.Native.Nat.{ℕ, ◌<◌, ◌+◌}
use mathlib.Core.Path.{◌≡◌, sym, ap, subst}
use mathlib.Core.Logic.{◌⊎◌, inl, inr}
use native.Mathlib.Omega.{arith}
use native.Mathlib.Decide.{dec_lt}
use lib.ListN.{get_or}
use Rattle.coverage.specs.Contexts.{Sought}
use Rattle.coverage.proofs.Laws.Group.{grouping_none, grouping_skip, grouping_more}
use Rattle.coverage.proofs.contexts.contexts.Goals.{then-d-n+then-w-ne0+then-c-count, then-d-n+then-w-ne0+else-c-count, then-d-n+else-w-ne0, else-d-n}
use Rattle.coverage.proofs.contexts.contexts.Goals as goal

-- one context more, or as many
one_more : (count i : ℕ) → i < count + 1 → (i < count) ⊎ (i ≡ count)
one_more count i h = go (dec_lt i count)
  where
    go : Dec (i < count) → (i < count) ⊎ (i ≡ count)
    go (yes p) = inl p
    go (no n) = inr (omega (arith, n))

pub loop-j-init : goal.loop-j-init
loop-j-init c = grouping_none c.args.target.now c.args.excluded.now c.args.n

pub loop-j-preserved : goal.loop-j-preserved
loop-j-preserved c =
    let a = c.args in
    let excluded = c.args.excluded.now in
    let l = c.loop-j in
    let G = l.invariant in
    let net_is = ap (λ (z : ℕ). get_or excluded z 0) (sym c.from-d.ensures) in
    elim c.if-d-n.branch [
      | then-d-n+then-w-ne0+then-c-count w ↦
          let S = subst (λ (z : ℕ). Sought l.exclude l.count (get_or excluded c.from-d.result 0) z) (sym w.unwrap_or-c.ensures) w.find.ensures in
          rw (w.count-is, w.exclude-is, w.members-is)
          (grouping_more a.target.now excluded l.j a.n l.count l.exclude l.members G w.unwrap_or-c.result (get_or excluded c.from-d.result 0)
          w.with.result (l.count + 1) S (omega (arith, c.from-d.ensures, w.if-d-n.true)) net_is (omega (arith, w.if-w-ne0.true))
          (omega (arith, c.loop-j-test.true, c.requires.0)) w.with.ensures.0 w.with.ensures.1 (omega (arith, w.if-c-count.true)) (omega arith)
          (λ i h. subst (λ (y : ℕ). (i < l.count) ⊎ (i ≡ y)) (sym w.if-c-count.true) (one_more l.count i h)) (omega (arith, G.grouped.count_le)))
      | then-d-n+then-w-ne0+else-c-count w ↦
          let S = subst (λ (z : ℕ). Sought l.exclude l.count (get_or excluded c.from-d.result 0) z) (sym w.unwrap_or-c.ensures) w.find.ensures in
          rw (w.count-is, w.exclude-is, w.members-is)
          (grouping_more a.target.now excluded l.j a.n l.count l.exclude l.members G w.unwrap_or-c.result (get_or excluded c.from-d.result 0)
          w.with.result l.count S (omega (arith, c.from-d.ensures, w.if-d-n.true)) net_is (omega (arith, w.if-w-ne0.true))
          (omega (arith, c.loop-j-test.true, c.requires.0)) w.with.ensures.0 w.with.ensures.1 (omega (arith, w.if-c-count.false, S.le)) (omega arith)
          (λ i h. inl h) (omega (arith, G.grouped.count_le)))
      | then-d-n+else-w-ne0 w ↦
          rw (w.count-is, w.exclude-is, w.members-is)
          (grouping_skip a.target.now excluded l.j a.n l.count l.exclude l.members G
          (λ h p. let q = ap (λ (z : ℕ). get_or excluded z 0) c.from-d.ensures in omega (arith, w.if-w-ne0.false)))
      | else-d-n w ↦
          rw (w.count-is, w.exclude-is, w.members-is)
          (grouping_skip a.target.now excluded l.j a.n l.count l.exclude l.members G (λ h p. omega (arith, c.from-d.ensures, w.if-d-n.false)))
    ]
