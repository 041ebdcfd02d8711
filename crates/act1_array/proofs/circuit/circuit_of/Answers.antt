-- What the code needs follows from the rules.
use Rattle.std.proofs.Common.{arith}
use Rattle.act1_array.proofs.Bounds.{few_ports}
use Rattle.act1_array.proofs.RangeLemmas.{given_in_range, given_apart}
use Rattle.act1_array.proofs.circuit.circuit_of.Goals as goal

pub circuit_of_sites-requires-clause-few_inputs : goal.circuit_of_sites-requires-clause-few_inputs
circuit_of_sites-requires-clause-few_inputs c = let few = few_ports c.devices_are_small.ensures c.args.device.now c.args.file.now c.requires in omega arith

pub circuit_of_sites-requires-clause-few_outputs : goal.circuit_of_sites-requires-clause-few_outputs
circuit_of_sites-requires-clause-few_outputs c = let few = few_ports c.devices_are_small.ensures c.args.device.now c.args.file.now c.requires in omega arith

pub returns-clause-in_range : goal.returns-clause-in_range
returns-clause-in_range c =
    given_in_range c.args.device.now c.args.file.now (few_ports c.devices_are_small.ensures c.args.device.now c.args.file.now c.requires) c.circuit_of_sites.result (c.circuit_of_sites.ensures.gives c.requires) c.circuit_of_sites.ensures.few

pub returns-clause-apart : goal.returns-clause-apart
returns-clause-apart c = given_apart c.args.device.now c.args.file.now c.requires c.circuit_of_sites.result (c.circuit_of_sites.ensures.gives c.requires)
