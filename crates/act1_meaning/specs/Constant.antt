-- Circuits without modules, for netlists of constants.
use Rattle.std.specs.Prelude.{◌≡◌, ◌⊎◌, false, [], map, All}
use Rattle.act1_circuit.specs.declared.circuit.Circuit.{Circuit}
use Rattle.act1_circuit.specs.declared.circuit.Output.{Output}
use Rattle.act1_circuit.specs.declared.circuit.Source.TheVariants.{Zero, One}
use Rattle.act1_circuit.specs.Firing.{source_value}
use Rattle.act1_meaning.specs.Meaning.{Ports}
use Rattle.act1_blif.specs.declared.blif.Blif.{Blif}
use Rattle.act1_blif.specs.declared.blif.Node.{Node}
use Rattle.act1_blif.specs.Run.{signals, node_value}

-- the netlist has no inputs and no latches, and the circuit has no modules, and its outputs are the netlist's constants
pub record IsConstantCircuit (c : Circuit) (b : Blif) : Type 0 where
  pub ports : Ports c b
  pub inputs : b.inputs ≡ []
  pub latches : b.latches ≡ []
  pub nodes : All (λ (node : Node). node.inputs ≡ []) b.nodes
  pub modules : c.modules ≡ []
  pub sources : All (λ (o : Output). (o.source ≡ Zero) ⊎ (o.source ≡ One)) c.outputs
  pub values : map (λ (o : Output). source_value false [] [] o.source) c.outputs ≡ signals (map (node_value []) b.nodes) b.outputs
