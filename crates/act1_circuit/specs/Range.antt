-- What the numbers of a circuit keep.
use Rattle.std.specs.Prelude.{◌≡◌, ◌<◌, ◌≤◌, List, length, All}
use Rattle.act1_circuit.specs.declared.circuit.Circuit.{Circuit}
use Rattle.act1_circuit.specs.declared.circuit.Output.{Output}
use Rattle.act1_circuit.specs.declared.circuit.Start.{Start}
use Rattle.act1_circuit.specs.declared.circuit.Source.{Source}
use Rattle.act1_circuit.specs.declared.circuit.Source.TheVariants.{Input, Module}

-- the circuit has the input or the module
abbrev pub HasSource : Circuit → Source → Type 0
HasSource c (Input i) = i < length c.inputs
HasSource c (Module m) = m < length c.modules
HasSource c source = Unit {0}

-- the circuit has each of its sources, and each start stands at a module
pub record InRange (c : Circuit) : Type 0 where
  pub pins : All (λ (sources : List Source). (length sources ≡ 8) × All (HasSource c) sources) c.modules
  pub outputs : All (λ (o : Output). HasSource c o.source) c.outputs
  pub starts : All (λ (start : Start). start.module < length c.modules) c.starts
  -- as many inputs, outputs and modules as their numbers can tell apart
  pub few_inputs : length c.inputs ≤ 65535
  pub few_outputs : length c.outputs ≤ 65535
  pub few_modules : length c.modules ≤ 65535
