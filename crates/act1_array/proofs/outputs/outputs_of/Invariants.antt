use Rattle.std.proofs.Common.{take, All}
use Rattle.act1_device.specs.declared.device.Device.{Device}
use Rattle.act1_fuses.specs.declared.fuses.Port.{Port}
use Rattle.act1_fuses.specs.Array.{IsSource, pad_wire}
use Rattle.act1_array.specs.NetworkSteps.{IsNetworkOf}
use Rattle.act1_array.specs.PartSteps.{AreOutputs}
use Rattle.act1_array.proofs.outputs.outputs_of.Given as goal

-- the outputs so far have their sources
abbrev pub invariant-loop-number : goal.invariant-loop-number
invariant-loop-number l = (dev : Device) → IsNetworkOf dev l.file l.network → All (λ (port : Port). ¬ IsSource l.file (pad_wire port.pad)) l.file.outs → AreOutputs dev l.file l.network.spots (take l.number l.file.outs) l.outputs
