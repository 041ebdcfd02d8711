use Rattle.std.proofs.Common.{◌≤◌, length, List, sym, subst}
use Rattle.act1_device.specs.declared.device.Site.{Site}
use Rattle.act1_groute.specs.declared.wiring.Wiring.{Wiring}
use Rattle.act1_groute.specs.Emitted.{Emitted}
use Rattle.act1_emit.specs.SiteSteps.{ArePutInOrder, HaveTrackEach}
use Rattle.act1_emit.proofs.LegalPlans.{low_rows, few_pads}
use Rattle.act1_emit.proofs.TrackedPlans.{few_channels, have_tracks, emitted, parts_are}
use Rattle.act1_emit.proofs.emission.sites_of.Goals as goal

pub add_rails-requires-clause-rows : goal.add_rails-requires-clause-rows
add_rails-requires-clause-rows c = low_rows c.args.device.now c.args.plan.now c.requires.legal

pub add_rails-requires-clause-few : goal.add_rails-requires-clause-few
add_rails-requires-clause-few c = few_pads c.args.device.now c.args.plan.now c.requires.legal

pub add_signals-requires-clause-there : goal.add_signals-requires-clause-there
add_signals-requires-clause-there c =
    subst (λ (l : List (List Wiring)). HaveTrackEach c.args.device.now l c.args.tracks.now) (sym c.as_slice.ensures) (have_tracks c.args.device.now c.args.plan.now c.args.routes.now.channels c.args.tracks.now c.requires)

pub add_signals-requires-clause-few : goal.add_signals-requires-clause-few
add_signals-requires-clause-few c = subst (λ (l : List (List Wiring)). length l ≤ 255) (sym c.as_slice.ensures) (few_channels c.args.device.now c.args.plan.now c.args.routes.now.channels c.args.tracks.now c.requires)

pub returns : goal.returns
returns c =
    let dev = c.args.device.now in
    let plan = c.args.plan.now in
    let channels = c.args.routes.now.channels in
    let tracks = c.args.tracks.now in
    let parts = parts_are dev plan channels c.as_slice.result.now tracks c.new-sites.result.items c.add_rails.new.sites.items c.add_signals.new.sites.items c.new-sites.ensures.items c.in_ok-add_rails.ensures c.in_ok-add_signals.ensures c.as_slice.ensures in
    let put = subst (λ (l : List Site). ArePutInOrder l c.put_in_order.new.sites.items) parts c.put_in_order.ensures in
    subst (Emitted dev plan channels tracks) (sym c.from_vec.ensures) (emitted dev plan channels tracks c.requires c.put_in_order.new.sites.items put)
