use Rattle.std.proofs.Common.{◌≡◌, ◌++◌, map, take, false}
use Rattle.act1_circuit.specs.declared.circuit.Output.{Output}
use Rattle.act1_circuit.specs.Firing.{source_value}
use Rattle.act1_sim.specs.Vectors.{digit}
use Rattle.act1_sim.proofs.cycle.print_outputs.Given as goal

-- the characters so far
abbrev pub invariant-loop-output : goal.invariant-loop-output
invariant-loop-output l = l.text.items ≡ l.initial.text.items ++ map (λ (o : Output). digit (source_value false l.inputs l.bits o.source)) (take l.output-index l.output-items)
