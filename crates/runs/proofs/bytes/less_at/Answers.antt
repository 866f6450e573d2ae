use mathlib.Core.Path.{◌∙◌, ap}
use Rattle.runs.specs.Bytes.{Bytes, lt_bytes}
use Rattle.runs.proofs.TestLaws.{lt_is}
use Rattle.runs.proofs.bytes.less_at.Goals as goal

pub returns : goal.returns
returns c = c.is_lt.ensures ∙ lt_is _ _ c.cmp.result c.cmp.ensures ∙ ap (λ (b : Bytes). lt_bytes b c.args.run.now) c.run_at.ensures.value
