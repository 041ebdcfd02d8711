-- What a legal plan leaves of its sizes.
use Rattle.std.proofs.Common.{◌+◌, ◌<◌, ◌≤◌, length, arith, All}
use Rattle.act1_device.specs.declared.device.Device.{Device}
use Rattle.act1_device.proofs.Pads.{devices_are_small}
use Rattle.act1_circuit.specs.declared.circuit.Spot.{Spot}
use Rattle.act1_circuit.specs.declared.circuit.Start.{Start}
use Rattle.act1_plan.specs.declared.plan.Plan.{Plan}
use Rattle.act1_plan.specs.Legal.{Legal}

module _ (dev : Device) (plan : Plan) (legal : Legal dev plan) where
  -- a pad's number fits its field
  pub few_pads : length dev.pads ≤ 65535
  few_pads = let small = devices_are_small dev in omega (arith, small.pads)

  pub few_inputs : length plan.placed.circuit.inputs ≤ 65535
  few_inputs = omega (arith, few_pads, legal.pads)

  pub few_ports : length plan.placed.circuit.inputs + length plan.placed.circuit.outputs ≤ 65535
  few_ports = omega (arith, few_pads, legal.pads)

  pub low_rows : All (λ (s : Spot). s.row < 32) plan.placed.spots
  low_rows k d within = let small = devices_are_small dev in let low = (legal.on_device k d within).0 in omega (arith, small.rows)

  -- each start's module has a spot
  pub starts_stand : All (λ (s : Start). s.module < length plan.placed.spots) plan.placed.circuit.starts
  starts_stand k d within = let low = legal.range.starts k d within in omega (arith, legal.spots)
