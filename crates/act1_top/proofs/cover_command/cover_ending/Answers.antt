use Rattle.std.proofs.Common.{inr}
use Rattle.act1_frame.proofs.Stages.{on_ok, on_err}
use Rattle.act1_top.specs.CoverCommand.{CoverEnds, CoverMayEnd}
use Rattle.act1_top.proofs.cover_command.cover_ending.Goals as goal

pub returns-clause-ok : goal.returns-clause-ok
returns-clause-ok g c =
    let before = g.F.Files.seen c.args.files.now in
    let after = g.F.Files.seen c.netlist_under.new.files in
    on_ok (CoverEnds c.in_ok-net.net) (CoverMayEnd c.args.words.now before after) (λ e h. inr (c.in_ok-net.net, c.in_ok-net.ensures.ok, h)) c.cover_ends.result c.cover_ends.ensures.ok

pub returns-clause-err : goal.returns-clause-err
returns-clause-err g c =
    let before = g.F.Files.seen c.args.files.now in
    let after = g.F.Files.seen c.netlist_under.new.files in
    on_err (CoverEnds c.in_ok-net.net) (CoverMayEnd c.args.words.now before after) (λ e h. inr (c.in_ok-net.net, c.in_ok-net.ensures.ok, h)) c.cover_ends.result c.cover_ends.ensures.err
