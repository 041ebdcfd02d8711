use Rattle.std.proofs.Common.{inr}
use Rattle.act1_frame.proofs.Stages.{on_ok, on_err}
use Rattle.act1_top.specs.BlifCommand.{BlifEnds, BlifMayEnd}
use Rattle.act1_top.proofs.blif_command.blif_ending.Goals as goal

pub returns-clause-ok : goal.returns-clause-ok
returns-clause-ok g c =
    let before = g.F.Files.seen c.args.files.now in
    let after = g.F.Files.seen c.netlist_under.new.files in
    on_ok (BlifEnds c.in_ok-net.net) (BlifMayEnd c.args.words.now before after) (λ e h. inr (c.in_ok-net.net, c.in_ok-net.ensures.ok, h)) c.blif_ends.result c.blif_ends.ensures.ok

pub returns-clause-err : goal.returns-clause-err
returns-clause-err g c =
    let before = g.F.Files.seen c.args.files.now in
    let after = g.F.Files.seen c.netlist_under.new.files in
    on_err (BlifEnds c.in_ok-net.net) (BlifMayEnd c.args.words.now before after) (λ e h. inr (c.in_ok-net.net, c.in_ok-net.ensures.ok, h)) c.blif_ends.result c.blif_ends.ensures.err
