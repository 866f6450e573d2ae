-- A run that the table has stands where it was found; another is pushed.
use native.Mathlib.Omega.{arith}
use Rattle.runs.proofs.TableLaws.{held_law, room_law, new_law}
use Rattle.runs.proofs.table.intern.Goals as goal

pub find-i-requires : goal.find-i-requires
find-i-requires c = c.requires.good

pub returns-then-i-n : goal.returns-then-i-n
returns-then-i-n c =
    held_law c.args.limit c.args.table.now c.args.n c.args.run.now c.requires c.find-i.result c.find-i.ensures c.if-i-n.true

pub push-requires : goal.push-requires
push-requires c =
    let e = c.find-i.ensures in
    let q = c.if-i-n.false in
    room_law c.args.limit c.args.table.now c.args.n c.args.run.now c.requires (omega arith)

pub returns : goal.returns
returns c =
    let e = c.find-i.ensures in
    let q = c.if-i-n.false in
    new_law c.args.limit c.args.table.now c.args.n c.args.run.now c.requires c.push.new.table
    (room_law c.args.limit c.args.table.now c.args.n c.args.run.now c.requires (omega arith)) c.push.ensures
