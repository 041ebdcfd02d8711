use Rattle.std.proofs.Common.{◌≡◌, map, take}
use Rattle.act1_fuses.specs.declared.fuses.Port.{Port}
use Rattle.act1_array.proofs.circuit.names_of.Given as goal

-- the names so far
abbrev pub invariant-loop-port : goal.invariant-loop-port
invariant-loop-port l = l.names ≡ map (λ (port : Port). port.name) (take l.port-index l.ports)
