-- `facts::targets` meets its contract. The loop's invariant: the first j entries are the places of the first j runs.
use Prim.Native.Nat.{ℕ, ◌+◌, ◌<◌}
use mathlib.Core.Path.{◌≡◌, ◌∙◌, ap}
use mathlib.Core.List.{List}
use native.Mathlib.Decide.{dec_lt}
use native.Mathlib.Omega.{arith}
use lib.ListN.{length, get_or, length-set, set}
use lib.Seq.{get_or-set_same, get_or-set_other}
use Rattle.runs.specs.Bytes.{run_at}
use Rattle.runs.specs.Members.{place}
use Rattle.runs.specs.Table.{runs}
use Rattle.runs.proofs.MemberLaws.{place_le}
use Rattle.runs.proofs.TableLaws.{runs_long}
use Rattle.keyline.specs.Limits.{delegation_limit}
use Rattle.answers.specs.Facts.{Targets}
use Rattle.answers.proofs.facts.targets.Goals as goal

-- one place more
extend : (digests revoked target : List ℕ) (n j v : ℕ) → Targets digests n revoked j target → j < length target
    → v ≡ place (runs digests n) (run_at revoked j) → Targets digests n revoked (j + 1) (set target j v)
extend digests revoked target n j v f l e i h = go (dec_lt i j)
  where
    go : Dec (i < j) → get_or (set target j v) i 0 ≡ place (runs digests n) (run_at revoked i)
    go (yes k) = get_or-set_other target j i v 0 (omega arith) ∙ f i k
    go (no k) = let q : i ≡ j = omega (arith, k) in rw q (get_or-set_same target j v 0 l ∙ e)

pub overflow_cast-target : goal.overflow_cast-target
overflow_cast-target c =
    let g = c.requires.0 in
    let r = g.room in
    let l = runs_long delegation_limit c.args.digests.now c.args.n g in
    let p = place_le (runs c.args.digests.now c.args.n) c.run_at.result.now in
    let e = c.find-at.ensures in
    record { fits = omega arith }

pub loop-j-preserved : goal.loop-j-preserved
loop-j-preserved c =
    let i = c.loop-j.invariant in
    let j = c.loop-j.j in
    let w = i.long in
    record {
      long = simp length-set i.long;
      done = extend c.args.digests.now c.args.revoked.now c.loop-j.target c.args.n j c.find-at.result.0 i.done (omega arith)
          (c.find-at.ensures ∙ ap (λ k. place (runs c.args.digests.now c.args.n) k) c.run_at.ensures.value);
    }
