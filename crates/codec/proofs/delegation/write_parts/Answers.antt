-- `write_parts` leaves the payload at the front: four runs, each put behind what stands there already.
use Rattle.codec.specs.Delegation.{encoded}
use Rattle.codec.proofs.FourWrites.{parts_front}
use Rattle.codec.proofs.delegation.write_parts.Goals as goal

pub returns : goal.returns
unfolding encoded
returns c =
    let citation-put = c.copy_at-4 in
    let byte_put = c.copy_at-3 in
    let tag = c.tag_for in
    let subject-put = c.copy_at-2 in
    let audience-put = c.copy_at in
    let a = c.args in
    rw (← tag.ensures)
    (parts_front a.audience.now a.subject.now a.citation.now a.out.now
    audience-put.new.out subject-put.new.out byte_put.new.out citation-put.new.out a.power tag.result
    c.requires.audience_long c.requires.subject_long audience-put.ensures subject-put.ensures byte_put.ensures citation-put.ensures)
