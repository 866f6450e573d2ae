-- One run more is put behind those that stand at the front.
use Prim.Native.Nat.{ℕ, ◌+◌, ◌*◌, ◌≤◌, ◌<◌}
use mathlib.Core.Path.{◌≡◌, ap, ◌∙◌}
use mathlib.Core.List.{List, [], ◌++◌, map}
use native.Mathlib.Omega.{arith}
use lib.ListN.{length, take, get_or, length-map}
use lib.Seq.{length-take-le, get_or-take}
use Rattle.lent.specs.Bytes.{put, front}
use Rattle.lent.proofs.Fronts.{front_none, put_front}
use Rattle.runs.specs.Bytes.{Bytes, run_length, run_at, joined}
use Rattle.runs.specs.Chosen.{Listable}
use Rattle.runs.proofs.ByteLaws.{length_run}
use Rattle.runs.proofs.PartLaws.{map_at}
use Rattle.runs.proofs.ListLaws.{joined_none, joined_snoc, joined_long, map_more}
use Rattle.runs.proofs.list.put_runs.Goals as goal

module _ (t ps : Bytes) (k : ℕ) (o : Bytes) (r : Listable t ps k o) where
  first_long : (j : ℕ) → j ≤ k → length (joined (map (run_at t) (take j ps))) ≡ run_length * j
  first_long j h =
      let a = r.enough in
      let l : length (map (run_at t) (take j ps)) ≡ j = length-map (take j ps) (run_at t) ∙ length-take-le j ps (omega arith) in
      joined_long (map (run_at t) (take j ps))
      (λ i p. let q : i < j = omega arith in let b = length-take-le j ps (omega arith) in
      rw (map_at (run_at t) (take j ps) i 0 [] (omega arith), get_or-take j ps i 0 q) (length_run t (get_or ps i 0) (r.within i (omega arith))))
      ∙ rw l

  one_more : (out y : Bytes) (i j : ℕ) → j < k → i ≡ get_or ps j 0 → y ≡ run_at t i → out ≡ front (joined (map (run_at t) (take j ps))) o
      → put out (run_length * j) y ≡ front (joined (map (run_at t) (take (j + 1) ps))) o
  one_more out y i j h e f p =
      let a = r.enough in
      let q = put_front (joined (map (run_at t) (take j ps))) o (run_at t (get_or ps j 0)) in
      let s : joined (map (run_at t) (take (j + 1) ps)) ≡ joined (map (run_at t) (take j ps)) ++ run_at t (get_or ps j 0) =
      ap (λ (m : List Bytes). joined m) (map_more (run_at t) ps j 0 (omega arith)) ∙ joined_snoc (map (run_at t) (take j ps)) (run_at t (get_or ps j 0)) in
      rw (p, f, e, ← first_long j (omega arith), s) q

pub loop-j-init : goal.loop-j-init
loop-j-init c = rw joined_none (front_none _)

pub put_run-requires : goal.put_run-requires
put_run-requires c =
    let r = c.requires.room in
    let w = c.requires.within c.loop-j.j c.loop-j-test.true in
    let e = c.from.ensures in
    let l = c.loop-j.auto.out in
    (omega arith, c.run_at.ensures.len)

pub loop-j-preserved : goal.loop-j-preserved
loop-j-preserved c =
    let l = c.loop-j in
    rw c.put_run.ensures (one_more c.args.table.now c.args.places.now c.args.k c.args.out.now c.requires l.out c.run_at.result.now c.from.result l.j c.loop-j-test.true c.from.ensures c.run_at.ensures.value l.invariant)
