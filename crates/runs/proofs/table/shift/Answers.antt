-- The bytes are copied one further on, and v stands in front of them.
use Prim.Native.Nat.{ℕ, ◌+◌, ◌-◌, ◌≤◌, ◌<◌}
use mathlib.Core.Path.{◌≡◌}
use native.Mathlib.Omega.{arith}
use lib.ListN.{length, take, drop, length-take, length-drop}
use Rattle.std.specs.List.{copy_within}
use Rattle.lent.specs.Bytes.{put}
use Rattle.runs.specs.Bytes.{Bytes}
use Rattle.runs.proofs.PartLaws.{set_put}
use Rattle.runs.proofs.table.shift.Goals as goal

module _ (b : Bytes) (a e : ℕ) (within : a ≤ e) (fits : e < length b) where
  part_long : length (take (e - a) (drop a b)) ≡ e - a
  part_long = simp (length-take, length-drop) (omega arith)

  copied : copy_within b a e (a + 1) ≡ put b (a + 1) (take (e - a) (drop a b))
  unfolding put
  copied = rw part_long

pub returns : goal.returns
returns c =
    let b = c.args.bytes.now in
    let a = c.args.a in
    let e = c.args.e in
    let h = c.requires.0 in
    let q = c.requires.1 in
    let p = part_long b a e h q in
    rw (c.copy_within.ensures.after, copied b a e h q) (set_put b (take (e - a) (drop a b)) a c.args.v (omega arith))
