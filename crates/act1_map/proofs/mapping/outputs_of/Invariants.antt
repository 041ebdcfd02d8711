use Rattle.std.proofs.Common.{◌≡◌, map, take}
use Rattle.act1_circuit.specs.declared.circuit.Output.{Output}
use Rattle.act1_map.specs.MapSteps.{source_in}
use Rattle.act1_map.proofs.mapping.outputs_of.Given as goal

-- the first outputs
abbrev pub invariant-loop-at : goal.invariant-loop-at
invariant-loop-at l =
    (map (λ (o : Output). o.name) l.outputs ≡ take l.at l.net.names) × (map (λ (o : Output). o.source) l.outputs ≡ map (source_in l.sources) (take l.at l.net.outputs))
