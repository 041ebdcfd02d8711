use Rattle.std.proofs.Common.{arith}
use Rattle.act1_place.proofs.nets.add_pads.Goals as goal

pub overflow_add-first : goal.overflow_add-first
overflow_add-first c = let few = (c.devices_are_small.ensures c.args.device.now).pads in omega (arith, few, c.requires, c.loop-at-test.true)
