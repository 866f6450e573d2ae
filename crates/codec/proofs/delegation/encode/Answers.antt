-- `encode` writes only where the checks all pass.
use Rattle.codec.proofs.Writing.{room_of}
use Rattle.codec.proofs.delegation.encode.Goals as goal

pub write_parts-requires : goal.write_parts-requires
write_parts-requires c =
    let a = c.args in
    room_of a.audience.now a.subject.now a.citation.now a.out.now a.power _ c.encode_check.ensures c.in_ok-needed.was
