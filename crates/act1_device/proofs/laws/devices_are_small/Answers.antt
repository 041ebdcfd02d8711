use Rattle.act1_device.proofs.Pads.{devices_are_small as are_small}
use Rattle.act1_device.proofs.laws.devices_are_small.Goals as goal

pub returns : goal.returns
returns c = are_small
