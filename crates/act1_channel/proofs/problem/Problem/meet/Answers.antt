use Rattle.std.proofs.Common.{get_or, arith}
use Rattle.std.proofs.lemmas.Option.{slice_get-get_or}
use Rattle.act1_channel.proofs.AssignmentLemmas.{meet_on, meet_off}
use Rattle.act1_channel.proofs.problem.Problem.meet.Goals as goal

pub do_clash-requires-clause-track : goal.do_clash-requires-clause-track
do_clash-requires-clause-track c =
    let tracks = c.args.tracks.now in
    let ok = c.requires.allowed c.args.d (get_or tracks c.args.d 0) (slice_get-get_or tracks c.args.d 0 c.requires.second) in
    omega (arith, ok.1, c.from.ensures)

pub returns-then-tracks-c : goal.returns-then-tracks-c
returns-then-tracks-c c =
    meet_on c.args.self.now c.args.tracks.now c.do_clash.result c.args.c c.args.d c.from.result c.requires.first c.requires.second c.if-tracks-c.true c.from.ensures c.do_clash.ensures

pub returns-else-tracks-c : goal.returns-else-tracks-c
returns-else-tracks-c c = meet_off c.args.self.now c.args.tracks.now c.args.c c.args.d c.requires.first c.requires.second c.if-tracks-c.false
