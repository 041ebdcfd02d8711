use Rattle.act1_device.specs.declared.device.Device.{Device}
use Rattle.act1_fuses.specs.declared.fuses.FuseFile.{FuseFile}
use Rattle.act1_array.specs.NetworkSteps.{IsNetworkOf}
use Rattle.act1_array.proofs.CircuitLemmas.{ArePins}
use Rattle.act1_array.proofs.modules.pins_of.Given as goal

-- the pins so far have their sources
abbrev pub invariant-loop-pin : goal.invariant-loop-pin
invariant-loop-pin l = (dev : Device) (f : FuseFile) → IsNetworkOf dev f l.network → ArePins dev f l.network.spots (record { row = l.row; column = l.column }) l.pin l.sources
