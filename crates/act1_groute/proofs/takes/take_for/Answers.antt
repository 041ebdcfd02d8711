use Rattle.std.proofs.Common.{◌∙◌, List, ap, sym, refl}
use Rattle.std.specs.Prelude.{filter}
use Rattle.act1_groute.specs.Lists.{least_by}
use Rattle.act1_groute.specs.Routes.{LongWire, Take, is_served}
use Rattle.act1_groute.specs.RouteSteps.{column_distance, crosses_both, demand}
use Rattle.act1_groute.proofs.TakeSteps.{took_some}
use Rattle.act1_groute.proofs.takes.take_for.Goals as goal

pub returns-in_ok-take_wire-in-Some-clause-takes : goal.returns-in_ok-take_wire-in-Some-clause-takes
returns-in_ok-take_wire-in-Some-clause-takes c =
    let unserved = sym (c.is_served.ensures ∙ ap (λ (ts : List Take). is_served c.args.device.now c.args.plan.now ts (demand c.args.net c.args.channel)) c.as_slice.ensures.value) ∙ c.if-is_served.false in
    let found = sym c.in-Some.is ∙ c.least_free.ensures
    ∙ ap (λ (ws : List LongWire). least_by (column_distance c.source_column-column.result) (filter (crosses_both c.args.device.now c.nearest-home.result c.args.channel) ws)) c.as_slice-2.ensures.value in
    took_some c.args.device.now c.args.plan.now c.args.takes.now.items c.args.free.now.items c.args.net c.args.channel c.nearest-home.result c.source_column-column.result c.requires unserved c.nearest-home.ensures c.source_column-column.ensures
    c.in-Some.wire _ c.take_wire.new.takes.items found refl c.in_ok-take_wire-in-Some.ensures.takes
