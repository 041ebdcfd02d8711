use Rattle.std.proofs.Common.{◌≡◌, map, take}
use Rattle.act1_circuit.specs.PairForm.{outside_reads_of}
use Rattle.act1_circuit.proofs.forms.outside_reads.Given as goal

-- what the first modules read
abbrev pub invariant-loop-pins : goal.invariant-loop-pins
invariant-loop-pins l = l.reads.items ≡ map (outside_reads_of l.circuit) (take l.pins-index l.circuit.modules)
