use Rattle.std.proofs.Common.{arith}
use Rattle.act1_groute.proofs.RoutingSteps.{channel_more}
use Rattle.act1_groute.proofs.routing.channels_of.Goals as goal

pub overflow_add-channel-end : goal.overflow_add-channel-end
overflow_add-channel-end c = let few = (c.devices_are_small.ensures c.args.device.now).rows in omega (arith, few)

pub loop-channel-preserved : goal.loop-channel-preserved
loop-channel-preserved c =
    channel_more c.args.device.now c.args.plan.now c.args.nets.now c.args.owns.now c.loop-channel.channel c.loop-channel.found.items c.push.new.self.items c.in_ok-wirings_of.field-0 c.loop-channel.invariant c.in_ok-wirings_of.ensures
    c.in_ok-push.ensures.items
