use Rattle.std.proofs.Common.{sym, ap, subst, ◌∙◌}
use Rattle.std.proofs.lemmas.Result.{err_from_is_err_and}
use Rattle.act1_flow.specs.Helping.{Helping, helping_of}
use Rattle.act1_flow.proofs.Assigned.{channel_stops, flow_calls, has_tracks, no_calls, routed_for}
use Rattle.act1_flow.proofs.stages.flow_in_stages.Goals as goal

pub returns-in_err-routed-clause-gives : goal.returns-in_err-routed-clause-gives
returns-in_err-routed-clause-gives g c =
    let bench = g.H.Helpers.seen c.args.helpers.now in
    let p = err_from_is_err_and c.from_residual.result c.from_residual.ensures.1 in
    rw (p.1, p.2) (c.in_err-routed.ensures.err (helping_of c.args.program.now bench bench))

pub programmed-requires : goal.programmed-requires
programmed-requires g c =
    let helping = helping_of c.args.program.now (g.H.Helpers.seen c.args.helpers.now) (g.H.Helpers.seen c.all_tracks.new.helpers) in
    let ready = c.in_ok-routed.ensures.ok in
    has_tracks c.plan_laws.ensures.fit c.args.device.now c.args.net.now c.args.settings.now helping c.in_ok-routed.routed.plan c.in_ok-routed.routed.routes.channels c.in-Ok.tracked ready.plan_is ready.routed c.in-Ok.ensures.ok

pub returns-in_err-programmed-in-Ok-clause-calls : goal.returns-in_err-programmed-in-Ok-clause-calls
returns-in_err-programmed-in-Ok-clause-calls g c =
    let helping = helping_of c.args.program.now (g.H.Helpers.seen c.args.helpers.now) (g.H.Helpers.seen c.all_tracks.new.helpers) in
    let ready = c.in_ok-routed.ensures.ok in
    flow_calls c.args.device.now c.args.net.now c.args.settings.now helping c.in_ok-routed.routed.plan c.in_ok-routed.routed.routes.channels ready.plan_is ready.routed c.in-Ok.ensures.calls

pub returns-in_ok-programmed-in-Ok-clause-gives : goal.returns-in_ok-programmed-in-Ok-clause-gives
returns-in_ok-programmed-in-Ok-clause-gives g c =
    let helping = helping_of c.args.program.now (g.H.Helpers.seen c.args.helpers.now) (g.H.Helpers.seen c.all_tracks.new.helpers) in
    let ready = c.in_ok-routed.ensures.ok in
    routed_for c.args.device.now c.args.net.now c.args.settings.now helping c.in_ok-routed.routed.plan c.in_ok-routed.routed.routes.channels c.in-Ok.tracked c.in_ok-programmed-in-Ok.field-0 ready.pads ready.plan_is ready.routed
    c.in-Ok.ensures.ok c.in_ok-programmed-in-Ok.ensures.programmed c.in_ok-programmed-in-Ok.ensures.tally

pub returns-in_ok-programmed-in-Ok-clause-calls : goal.returns-in_ok-programmed-in-Ok-clause-calls
returns-in_ok-programmed-in-Ok-clause-calls g c =
    let helping = helping_of c.args.program.now (g.H.Helpers.seen c.args.helpers.now) (g.H.Helpers.seen c.all_tracks.new.helpers) in
    let ready = c.in_ok-routed.ensures.ok in
    flow_calls c.args.device.now c.args.net.now c.args.settings.now helping c.in_ok-routed.routed.plan c.in_ok-routed.routed.routes.channels ready.plan_is ready.routed c.in-Ok.ensures.calls

pub returns-in-Err-clause-gives : goal.returns-in-Err-clause-gives
returns-in-Err-clause-gives g c =
    let helping = helping_of c.args.program.now (g.H.Helpers.seen c.args.helpers.now) (g.H.Helpers.seen c.all_tracks.new.helpers) in
    let ready = c.in_ok-routed.ensures.ok in
    rw c.channel_stop.ensures (channel_stops c.plan_laws.ensures.fit c.args.device.now c.args.net.now c.args.settings.now helping c.in_ok-routed.routed.plan ready.plan_is ready.pads c.in-Err.stop c.in-Err.ensures.err)

pub returns-in-Err-clause-calls : goal.returns-in-Err-clause-calls
returns-in-Err-clause-calls g c =
    let helping = helping_of c.args.program.now (g.H.Helpers.seen c.args.helpers.now) (g.H.Helpers.seen c.all_tracks.new.helpers) in
    let ready = c.in_ok-routed.ensures.ok in
    flow_calls c.args.device.now c.args.net.now c.args.settings.now helping c.in_ok-routed.routed.plan c.in_ok-routed.routed.routes.channels ready.plan_is ready.routed c.in-Err.ensures.calls

pub returns-in_err-routed-clause-calls : goal.returns-in_err-routed-clause-calls
returns-in_err-routed-clause-calls g c = no_calls c.args.device.now c.args.net.now c.args.settings.now c.args.program.now (g.H.Helpers.seen c.args.helpers.now)
