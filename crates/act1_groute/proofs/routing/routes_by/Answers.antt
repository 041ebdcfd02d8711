use Rattle.std.proofs.Common.{◌∙◌, List, map, ap}
use Rattle.act1_groute.specs.declared.net.Net.{Net}
use Rattle.act1_groute.specs.Routes.{Take, own}
use Rattle.act1_groute.specs.RouteSteps.{channels_with}
use Rattle.act1_groute.proofs.RoutingSteps.{are_routes}
use Rattle.act1_groute.proofs.routing.routes_by.Goals as goal

pub returns : goal.returns
returns c =
    let dev = c.args.device.now in
    let plan = c.args.plan.now in
    let nets = c.args.nets.now in
    are_routes dev plan nets c.in_ok-takes.takes c.in_ok-owns.owns.items c.in_ok-channels.channels c.requires c.in_ok-takes.ensures
    (c.in_ok-owns.ensures ∙ ap (λ (ts : List Take). map (λ (n : Net). own n.source ts) nets) c.as_slice.ensures)
    (c.in_ok-channels.ensures ∙ ap (channels_with dev plan nets) c.as_slice-2.ensures.value)
