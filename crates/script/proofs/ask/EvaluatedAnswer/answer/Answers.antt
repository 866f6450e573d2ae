-- Each question is the call that it names.
use Rattle.script.specs.Run as run
use Rattle.script.proofs.ask.EvaluatedAnswer.answer.Goals as goal

pub returns-in-PositivePower : goal.returns-in-PositivePower
returns-in-PositivePower c = rw (c.in-PositivePower.is, c.from.ensures) (run.positive_power c.positive_power.ensures)

pub returns-in-EffectivePower : goal.returns-in-EffectivePower
returns-in-EffectivePower c = rw (c.in-EffectivePower.is, c.from-in-EffectivePower.ensures) (run.effective_power c.effective_power.ensures)

pub returns-in-Members : goal.returns-in-Members
returns-in-Members c = rw (c.in-Members.is, c.from-in-Members.ensures) (run.members c.members.ensures)

pub returns-in-IsLive : goal.returns-in-IsLive
returns-in-IsLive c = rw (c.in-IsLive.is, c.from-in-IsLive.ensures.1) (run.is_live c.is_live.ensures)

pub returns-in-ConveyedPower : goal.returns-in-ConveyedPower
returns-in-ConveyedPower c = rw (c.in-ConveyedPower.is, c.from-in-ConveyedPower.ensures) (run.conveyed_power c.conveyed_power.ensures)

pub returns-in-Standing : goal.returns-in-Standing
returns-in-Standing c = rw (c.in-Standing.is, c.from-in-Standing.ensures) (run.standing c.standing.ensures)

pub returns-in-Closure : goal.returns-in-Closure
returns-in-Closure c = rw (c.in-Closure.is, c.from-in-Closure.ensures) (run.closure c.closure.ensures)
