use Rattle.act1_engine.specs.Engines.{IsEngineOf}
use Rattle.act1_calls.proofs.engines.add_waves.Given as goal

-- the engine is one of the circuit
abbrev pub invariant-loop-wave : goal.invariant-loop-wave
invariant-loop-wave l = IsEngineOf l.circuit l.engine
