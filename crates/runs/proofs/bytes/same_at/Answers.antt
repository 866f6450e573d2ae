use mathlib.Core.Path.{◌∙◌, ap}
use Rattle.runs.specs.Bytes.{Bytes, eq_bytes}
use Rattle.runs.proofs.TestLaws.{eq_is}
use Rattle.runs.proofs.bytes.same_at.Goals as goal

pub returns : goal.returns
returns c = c.eq.ensures ∙ eq_is _ _ ∙ ap (λ (b : Bytes). eq_bytes b c.args.run.now) c.run_at.ensures.value
