use Rattle.act1_device.specs.declared.device.Device.{Device}
use Rattle.act1_fuses.specs.declared.fuses.FuseFile.{FuseFile}
use Rattle.act1_array.specs.NetworkSteps.{IsNetworkOf}
use Rattle.act1_array.specs.PartSteps.{AreModules}
use Rattle.act1_array.proofs.modules.modules_of.Given as goal

-- the modules so far have their sources
abbrev pub invariant-loop-spot : goal.invariant-loop-spot
invariant-loop-spot l = (dev : Device) (f : FuseFile) → IsNetworkOf dev f l.network → AreModules dev f l.network.spots l.spot-index l.modules
