use mathlib.Core.Path.{sym}
use Rattle.store.proofs.ViewLaws.{length_is}
use Rattle.store.proofs.Store.len.Goals as goal

pub returns : goal.returns
returns c = sym (length_is c.args.self.now)
