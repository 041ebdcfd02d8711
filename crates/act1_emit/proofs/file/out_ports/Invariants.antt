use Rattle.std.proofs.Common.{◌≡◌, ◌+◌, ◌++◌, drop, map}
use Rattle.act1_circuit.specs.declared.circuit.Output.{Output}
use Rattle.act1_emit.specs.File.{ports_from}
use Rattle.act1_emit.proofs.file.out_ports.Given as goal

-- the ports so far, and those of the outputs to come
abbrev pub invariant-loop-i : goal.invariant-loop-i
invariant-loop-i l = l.ports.items ++ ports_from (l.fn.first + l.i) (map (λ (o : Output). o.name) (drop l.i l.outputs)) ≡ ports_from l.fn.first (map (λ (o : Output). o.name) l.outputs)
