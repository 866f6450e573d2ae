-- The writer is handed the parts, and has room.
use mathlib.Core.Path.{ap, ◌∙◌}
use native.Mathlib.Omega.{arith}
use Rattle.power_levels.specs.Power.{byte_of, at_rank}
use Rattle.runs.proofs.ByteLaws.{run_part}
use Rattle.lookups.proofs.LookLaws.{rank_power, cited_part, cited_le, payload_put}
use Rattle.lookups.proofs.put.put_payload.Goals as goal

pub overflow_add-e : goal.overflow_add-e
overflow_add-e c = let f = c.requires.0.citation in let k = cited_le c.args.row.cited c.from.result c.from.ensures in omega arith

pub slice_bounds-encode-end-3 : goal.slice_bounds-encode-end-3
slice_bounds-encode-end-3 c =
    let f = c.requires.0.citation in
    let k = cited_le c.args.row.cited c.from.result c.from.ensures in
    omega arith

pub returns : goal.returns
returns c =
    let k = c.args.keys.now in
    let ci = c.args.citations.now in
    let row = c.args.row in
    c.encode-written.ensures.out_after
    ∙ payload_put k ci c.args.at row c.requires.0 c.args.out.now _ _ _ c.byte-w.result (run_part k row.audience.0) (run_part k row.subject.0) (c.byte-w.ensures ∙ ap byte_of (c.from_rank.ensures ∙ ap at_rank (omega (arith, c.requires.0.power)) ∙ rank_power row.power))
    (cited_part ci c.args.at.0 c.from.result row.cited c.from.ensures) c.requires.1
