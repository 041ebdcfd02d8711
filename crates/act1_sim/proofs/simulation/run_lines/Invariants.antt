use Rattle.std.proofs.Common.{◌+◌, ◌≤◌, map, length}
use Rattle.std.specs.Str.Lines.{lines}
use Rattle.act1_engine.specs.Engines.{engine_bits, IsEngineOf}
use Rattle.act1_sim.specs.Vectors.{bits_of}
use Rattle.act1_sim.proofs.CycleSteps.{Goes}
use Rattle.act1_sim.proofs.simulation.run_lines.Given as goal

-- the engine is one of the circuit, and the cycles to come decide
abbrev pub invariant-loop-line : goal.invariant-loop-line
invariant-loop-line l = record {
  can : (goal.iterator-loop-line).can_next l.line-iterator;
  finite : (goal.iterator-loop-line).is_finite l.line-iterator;
  few : l.cycle + length l.line-iterator ≤ length l.vectors + 1;
  is : IsEngineOf l.placed.circuit l.engine;
  goes : Goes l.placed.circuit (engine_bits l.fn.engine) (map bits_of (lines l.vectors)) l.cycle (engine_bits l.engine) (map bits_of l.line-iterator) l.text.items;
}
