use Rattle.std.proofs.lemmas.Result.{err_from_is_err_and}
use Rattle.act1_groute.specs.Routes.{take_all}
use Rattle.act1_groute.specs.RouteSteps.{demands_by, demands_of}
use Rattle.act1_groute.proofs.DemandSteps.{part_stops, net_next, net_stops}
use Rattle.act1_groute.proofs.taking.take_nets.Goals as goal

pub loop-net-preserved : goal.loop-net-preserved
loop-net-preserved c =
    let dev = c.args.device.now in
    let plan = c.args.plan.now in
    let wanted = take_all dev plan c.args.takes.now.items (demands_by dev plan c.args.nets.now) in (
      net_next dev plan c.args.nets.now c.loop-net.net-index c.net-item.result c.loop-net.takes.items c.take_channels.new.takes.items wanted c.loop-net-test.true c.net-item.is c.loop-net.invariant.0 c.in_ok-take_channels.ensures.takes,
      c.in_ok-take_channels.ensures.free,
    )

pub returns-in_err-take_channels : goal.returns-in_err-take_channels
returns-in_err-take_channels c =
    let dev = c.args.device.now in
    let plan = c.args.plan.now in
    let before = c.loop-net.takes.items in
    let wanted = take_all dev plan c.args.takes.now.items (demands_by dev plan c.args.nets.now) in
    let p = err_from_is_err_and c.from_residual.result c.from_residual.ensures.1 in
    part_stops (take_all dev plan before (demands_of dev plan c.net-item.result.source)) wanted c.take_channels.new.takes.items c.take_channels.new.takes.items c.in_err-take_channels.field-0.0 p.0 c.from_residual.result
    c.in_err-take_channels.ensures.takes p.1 p.2
    (λ d e. net_stops dev plan c.args.nets.now c.loop-net.net-index c.net-item.result before d wanted c.loop-net-test.true c.net-item.is c.loop-net.invariant.0 e)
