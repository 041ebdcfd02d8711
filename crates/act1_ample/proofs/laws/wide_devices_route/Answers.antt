use Rattle.act1_ample.proofs.SpanningRoutes.{routes_are_there}
use Rattle.act1_ample.proofs.WideChannels as laws
use Rattle.act1_ample.proofs.laws.wide_devices_route.Goals as goal

pub returns : goal.returns
returns c = record { routes = routes_are_there; wide = laws.channels_are_wide; plans = laws.wide_plans_route }
