use Rattle.std.proofs.Common.{◌+◌, arith}
use Rattle.std.proofs.lemmas.Result.{err_from_is_err_and}
use Rattle.act1_groute.specs.Routes.{take_all}
use Rattle.act1_groute.specs.RouteSteps.{demands_from, demands_of}
use Rattle.act1_groute.proofs.DemandSteps.{part_stops, channel_stops}
use Rattle.act1_groute.proofs.taking.take_channels.Goals as goal

pub overflow_add-channel-end : goal.overflow_add-channel-end
overflow_add-channel-end c = let few = (c.devices_are_small.ensures c.args.device.now).rows in omega (arith, few)

pub returns-in_err-take_channel-clause-takes : goal.returns-in_err-take_channel-clause-takes
returns-in_err-take_channel-clause-takes c =
    let dev = c.args.device.now in
    let plan = c.args.plan.now in
    let net = c.args.net.now.source in
    let before = c.loop-channel.takes.items in
    let wanted = take_all dev plan c.args.takes.now.items (demands_of dev plan net) in
    let p = err_from_is_err_and c.from_residual.result c.from_residual.ensures.1 in
    part_stops (take_all dev plan before (demands_from dev plan net c.loop-channel.channel 1)) wanted c.take_channel.new.takes.items c.take_channel.new.takes.items c.in_err-take_channel.field-0.0 p.0 c.from_residual.result
    c.in_err-take_channel.ensures.takes p.1 p.2
    (λ d e. channel_stops dev plan net (dev.rows + 1) c.loop-channel.channel before d wanted c.loop-channel-test.true c.loop-channel.invariant.0 e)
