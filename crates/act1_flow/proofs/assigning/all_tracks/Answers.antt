use Rattle.std.proofs.Common.{◌≡◌, ◌≤◌, length, sym, subst, arith}
use Rattle.act1_flow.specs.Flow.{AreProblemsOf}
use Rattle.act1_flow.specs.Helping.{helping_of}
use Rattle.act1_flow.specs.Steps.{IsChannelStop, IsTracked}
use Rattle.act1_flow.proofs.Verdicts.{all_few, calls_given, calls_stopped, err_tracked, few_verdicts, is_spent, ok_tracked, stops_within}
use Rattle.act1_flow.proofs.assigning.all_tracks.Goals as goal

pub verdicts-requires-clause-few : goal.verdicts-requires-clause-few
verdicts-requires-clause-few g c =
    let routed = c.args.routed.now in
    let are = subst (AreProblemsOf c.args.device.now routed.plan routed.routes.channels) (sym c.as_slice-problems.ensures) c.in_ok-problems.ensures in
    omega (arith, all_few c.args.device.now routed.plan routed.routes.channels c.as_slice-problems.result.now (c.devices_are_small.ensures c.args.device.now) c.requires.routed are)

pub tracks_or_stop-requires-clause-few : goal.tracks_or_stop-requires-clause-few
tracks_or_stop-requires-clause-few g c =
    let routed = c.args.routed.now in
    let are = subst (AreProblemsOf c.args.device.now routed.plan routed.routes.channels) (sym c.as_slice-problems.ensures) c.in_ok-problems.ensures in
    omega (arith, all_few c.args.device.now routed.plan routed.routes.channels c.as_slice-problems.result.now (c.devices_are_small.ensures c.args.device.now) c.requires.routed are)

pub tracks_or_stop-requires-clause-each : goal.tracks_or_stop-requires-clause-each
tracks_or_stop-requires-clause-each g c =
    let gives = c.in-Ok.ensures.ok in
    few_verdicts c.as_slice-problems.result.now c.args.settings.now.budget gives.s c.in-Ok.outcome.answers gives.verdicts

pub returns-in-Ok-clause-ok : goal.returns-in-Ok-clause-ok
returns-in-Ok-clause-ok g c =
    let dev = c.args.device.now in
    let routed = c.args.routed.now in
    let before = g.H.Helpers.seen c.args.helpers.now in
    let after = g.H.Helpers.seen c.verdicts.new.helpers in
    let are = subst (AreProblemsOf dev routed.plan routed.routes.channels) (sym c.as_slice-problems.ensures) c.in_ok-problems.ensures in
    ok_tracked dev routed.plan routed.routes.channels c.args.settings.now c.args.program.now before after c.requires.routed c.as_slice-problems.result.now are c.in-Ok.outcome c.in-Ok.ensures.ok c.tracks_or_stop.result c.tracks_or_stop.ensures.ok

pub returns-in-Ok-clause-err : goal.returns-in-Ok-clause-err
returns-in-Ok-clause-err g c =
    let dev = c.args.device.now in
    let routed = c.args.routed.now in
    let before = g.H.Helpers.seen c.args.helpers.now in
    let after = g.H.Helpers.seen c.verdicts.new.helpers in
    let are = subst (AreProblemsOf dev routed.plan routed.routes.channels) (sym c.as_slice-problems.ensures) c.in_ok-problems.ensures in
    err_tracked dev routed.plan routed.routes.channels c.args.settings.now c.args.program.now before after c.requires.routed c.as_slice-problems.result.now are c.in-Ok.outcome c.in-Ok.ensures.ok c.tracks_or_stop.result c.tracks_or_stop.ensures.err

pub returns-in-Ok-clause-calls : goal.returns-in-Ok-clause-calls
returns-in-Ok-clause-calls g c =
    let dev = c.args.device.now in
    let routed = c.args.routed.now in
    let before = g.H.Helpers.seen c.args.helpers.now in
    let after = g.H.Helpers.seen c.verdicts.new.helpers in
    let are = subst (AreProblemsOf dev routed.plan routed.routes.channels) (sym c.as_slice-problems.ensures) c.in_ok-problems.ensures in
    calls_given dev routed.plan routed.routes.channels c.args.settings.now c.args.program.now before after c.requires.routed c.as_slice-problems.result.now are c.in-Ok.outcome c.in-Ok.ensures.ok c.in-Ok.ensures.none

pub spent-requires-clause-few : goal.spent-requires-clause-few
spent-requires-clause-few g c =
    let routed = c.args.routed.now in
    let are = subst (AreProblemsOf c.args.device.now routed.plan routed.routes.channels) (sym c.as_slice-problems.ensures) c.in_ok-problems.ensures in
    omega (arith, all_few c.args.device.now routed.plan routed.routes.channels c.as_slice-problems.result.now (c.devices_are_small.ensures c.args.device.now) c.requires.routed are)

pub spent-requires-clause-within : goal.spent-requires-clause-within
spent-requires-clause-within g c =
    let dev = c.args.device.now in
    let routed = c.args.routed.now in
    let before = g.H.Helpers.seen c.args.helpers.now in
    let after = g.H.Helpers.seen c.verdicts.new.helpers in
    let are = subst (AreProblemsOf dev routed.plan routed.routes.channels) (sym c.as_slice-problems.ensures) c.in_ok-problems.ensures in
    stops_within dev routed.plan routed.routes.channels c.args.settings.now c.args.program.now before after c.requires.routed c.as_slice-problems.result.now are c.in-Err.stop c.in-Err.ensures.err

pub returns-clause-err : goal.returns-clause-err
returns-clause-err g c =
    let dev = c.args.device.now in
    let routed = c.args.routed.now in
    let before = g.H.Helpers.seen c.args.helpers.now in
    let after = g.H.Helpers.seen c.verdicts.new.helpers in
    let are = subst (AreProblemsOf dev routed.plan routed.routes.channels) (sym c.as_slice-problems.ensures) c.in_ok-problems.ensures in
    is_spent dev routed.plan routed.routes.channels c.args.settings.now c.args.program.now before after c.requires.routed c.as_slice-problems.result.now are c.in-Err.stop c.spent.result c.in-Err.ensures.err c.spent.ensures

pub returns-clause-calls : goal.returns-clause-calls
returns-clause-calls g c =
    let dev = c.args.device.now in
    let routed = c.args.routed.now in
    let before = g.H.Helpers.seen c.args.helpers.now in
    let after = g.H.Helpers.seen c.verdicts.new.helpers in
    let are = subst (AreProblemsOf dev routed.plan routed.routes.channels) (sym c.as_slice-problems.ensures) c.in_ok-problems.ensures in
    calls_stopped dev routed.plan routed.routes.channels c.args.settings.now c.args.program.now before after c.requires.routed c.as_slice-problems.result.now are c.in-Err.stop c.in-Err.ensures.err c.in-Err.ensures.none
