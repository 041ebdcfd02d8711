use Rattle.std.proofs.Common.{arith}
use Rattle.act1_device.proofs.Breaks.{few_breaks}
use Rattle.act1_device.proofs.device.Device.ends.Goals as goal

pub overflow_add-result : goal.overflow_add-result
overflow_add-result c =
    let site = rw c.in-Along.is at c.requires in
    let few = few_breaks c.args.self.now c.in-Along.channel c.in-Along.track in
    let within = site.2 in
    omega arith
