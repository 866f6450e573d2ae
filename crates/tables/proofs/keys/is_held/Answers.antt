use Rattle.runs.proofs.TableLaws.{has_place}
use Rattle.keyline.specs.Limits.{key_limit}
use Rattle.tables.proofs.keys.is_held.Goals as goal

pub returns : goal.returns
returns c = rw c.find.ensures (has_place key_limit c.args.table.now c.args.n c.requires c.args.key.now)
