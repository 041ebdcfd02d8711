use Rattle.std.proofs.Common.{inl, inr}
use Rattle.std.proofs.lemmas.Result.{err_from_is_err_and}
use Rattle.act1_blifread.specs.Text.{BlifText}
use Rattle.act1_frame.proofs.Stages.{found_before, stops_before, on_stop, on_ok, on_err}
use Rattle.act1_top.specs.Files.{file_of, NetlistRefused}
use Rattle.act1_top.specs.FlowCommand.{FlowEnds, FlowMayEnd, helping_in}
use Rattle.act1_top.proofs.FlowCalls.{flow_may_call, same_may_call}
use Rattle.act1_top.proofs.flow_command.flow_ending.Goals as goal

pub returns-in_err-net-clause-err : goal.returns-in_err-net-clause-err
returns-in_err-net-clause-err g c =
    let before = g.F.Files.seen c.args.files.now in
    let mid = g.F.Files.seen c.device_under.new.files in
    let after = g.F.Files.seen c.netlist_under.new.files in
    let bench = g.H.Helpers.seen c.args.helpers.now in
    let p = err_from_is_err_and c.from_residual-in_err-net.result c.from_residual-in_err-net.ensures.1 in
    rw (p.1, p.2)
    (on_stop _ (FlowMayEnd c.args.words.now (helping_in c.args.words.now bench bench) before after)
    (λ e h. inr (c.in_ok-device.device, c.in_ok-device.ensures.ok, inl (stops_before before mid after c.device_under.ensures.files (file_of c.args.words.now.blif) NetlistRefused e h)))
    c.in_err-net.field-0.0 c.in_err-net.ensures.err)

pub returns-clause-ok : goal.returns-clause-ok
returns-clause-ok g c =
    let before = g.F.Files.seen c.args.files.now in
    let mid = g.F.Files.seen c.device_under.new.files in
    let after = g.F.Files.seen c.netlist_under.new.files in
    let helping = helping_in c.args.words.now (g.H.Helpers.seen c.args.helpers.now) (g.H.Helpers.seen c.flow_ends.new.helpers) in
    on_ok (FlowEnds c.args.words.now helping c.in_ok-device.device c.in_ok-net.net) (FlowMayEnd c.args.words.now helping before after)
    (λ e h. inr (c.in_ok-device.device, c.in_ok-device.ensures.ok, inr (c.in_ok-net.net, found_before before mid after c.device_under.ensures.files (file_of c.args.words.now.blif) BlifText c.in_ok-net.net c.in_ok-net.ensures.ok, h)))
    c.flow_ends.result c.flow_ends.ensures.ok

pub returns-clause-err : goal.returns-clause-err
returns-clause-err g c =
    let before = g.F.Files.seen c.args.files.now in
    let mid = g.F.Files.seen c.device_under.new.files in
    let after = g.F.Files.seen c.netlist_under.new.files in
    let helping = helping_in c.args.words.now (g.H.Helpers.seen c.args.helpers.now) (g.H.Helpers.seen c.flow_ends.new.helpers) in
    on_err (FlowEnds c.args.words.now helping c.in_ok-device.device c.in_ok-net.net) (FlowMayEnd c.args.words.now helping before after)
    (λ e h. inr (c.in_ok-device.device, c.in_ok-device.ensures.ok, inr (c.in_ok-net.net, found_before before mid after c.device_under.ensures.files (file_of c.args.words.now.blif) BlifText c.in_ok-net.net c.in_ok-net.ensures.ok, h)))
    c.flow_ends.result c.flow_ends.ensures.err

pub returns-clause-helpers : goal.returns-clause-helpers
returns-clause-helpers g c =
    let before = g.F.Files.seen c.args.files.now in
    let mid = g.F.Files.seen c.device_under.new.files in
    let after = g.F.Files.seen c.netlist_under.new.files in
    flow_may_call c.args.words.now before (g.H.Helpers.seen c.args.helpers.now) (g.H.Helpers.seen c.flow_ends.new.helpers) c.in_ok-device.device c.in_ok-net.net c.in_ok-device.ensures.ok
    (found_before before mid after c.device_under.ensures.files (file_of c.args.words.now.blif) BlifText c.in_ok-net.net c.in_ok-net.ensures.ok) c.flow_ends.ensures.calls

pub returns-in_err-device-clause-helpers : goal.returns-in_err-device-clause-helpers
returns-in_err-device-clause-helpers g c = same_may_call c.args.words.now (g.F.Files.seen c.args.files.now) (g.H.Helpers.seen c.args.helpers.now)

pub returns-in_err-net-clause-helpers : goal.returns-in_err-net-clause-helpers
returns-in_err-net-clause-helpers g c = same_may_call c.args.words.now (g.F.Files.seen c.args.files.now) (g.H.Helpers.seen c.args.helpers.now)
