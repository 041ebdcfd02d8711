use Rattle.act1_engine.proofs.EngineSteps.{SetTo}
use Rattle.act1_engine.proofs.setting.set_sources.Given as goal

-- the inputs so far are set
abbrev pub invariant-loop-input : goal.invariant-loop-input
invariant-loop-input l = SetTo l.circuit l.wiring l.inputs l.input l.fn.values.items l.values.items l.marks
