use mathlib.Core.Path.{sym, ◌∙◌}
use Rattle.store.proofs.ViewLaws.{length_is}
use Rattle.store.proofs.Store.version.Goals as goal

pub returns : goal.returns
returns c = c.args.self.now.good.version ∙ sym (length_is c.args.self.now)
