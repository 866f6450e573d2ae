-- The front of the buffer comes back as the run.
use mathlib.Core.Path.{◌≡◌, refl, ◌∙◌}
use mathlib.Core.List.{[]}
use Rattle.lent.proofs.Fronts.{front_none}
use Rattle.runs.specs.Bytes.{run_length, run_at}
use Rattle.runs.proofs.ByteLaws.{length_run, run_part}
use Rattle.runs.proofs.ListLaws.{front_mid}
use Rattle.lookups.proofs.put.put_run.Goals as goal

pub returns : goal.returns
returns c =
    let t = c.args.table.now in
    let i = c.args.i in
    let o = c.args.out.now in
    let y : c.put_item.new.item ≡ run_at t i = c.put_item.ensures ∙ run_part t i in
    rw y (front_mid [] o o (run_at t i) 0 run_length refl (length_run t i c.requires.0) (front_none o))
