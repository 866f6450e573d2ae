-- The order makes room for the place n at the run's spot, and the run goes to place n.
use Prim.Native.Nat.{◌+◌, ◌-◌, ◌*◌, ◌≤◌}
use mathlib.Core.Path.{◌≡◌}
use native.Mathlib.Omega.{arith}
use Rattle.runs.specs.Bytes.{run_length}
use Rattle.runs.proofs.TableLaws.{spot_within, push_law}
use Rattle.runs.proofs.table.push.Goals as goal

pub rank-p-requires : goal.rank-p-requires
rank-p-requires c = c.requires.good

pub overflow_add-start : goal.overflow_add-start
overflow_add-start c =
    let h : c.rank-p.result ≤ c.args.n = rw c.rank-p.ensures (spot_within c.args.limit c.args.table.now c.args.n c.requires.good c.args.run.now) in
    let l = c.requires.good.long in
    let q = c.requires.space in
    omega arith

pub shift-requires : goal.shift-requires
shift-requires c =
    let h : c.rank-p.result ≤ c.args.n = rw c.rank-p.ensures (spot_within c.args.limit c.args.table.now c.args.n c.requires.good c.args.run.now) in
    let l = c.requires.good.long in
    let q = c.requires.space in
    (omega arith, omega arith)

pub put_run-requires : goal.put_run-requires
put_run-requires c =
    let l = c.requires.good.long in
    let q = c.requires.space in
    let k = c.shift.auto in
    (omega arith, c.requires.fits)

pub returns : goal.returns
returns c =
    let t = c.args.table.now in
    let m = c.args.limit in
    let n = c.args.n in
    let p = c.rank-p.result in
    let h : p ≤ n = rw c.rank-p.ensures (spot_within m t n c.requires.good c.args.run.now) in
    let e : run_length * m + n - (run_length * m + p) ≡ n - p = omega arith in
    rw (c.put_run.ensures, c.shift.ensures, e) (push_law m t n p c.args.run.now c.requires c.rank-p.ensures)
