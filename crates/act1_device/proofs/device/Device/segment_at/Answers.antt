use Rattle.std.proofs.Common.{length, ap, arith}
use Rattle.act1_device.proofs.Breaks.{few_breaks}
use Rattle.act1_device.proofs.device.Device.segment_at.Goals as goal

pub overflow_cast-result : goal.overflow_cast-result
overflow_cast-result c =
    let few = few_breaks c.args.self.now c.args.channel c.args.track in
    let long = ap length c.breaks_of.ensures in
    let count = c.count_up_to.ensures.few in
    omega arith
