use Rattle.std.proofs.Common.{◌∙◌, length, refl, ap, arith}
use Rattle.act1_groute.proofs.ProblemSteps.{has_channel, is_problem_of, connections_are}
use Rattle.act1_groute.proofs.problem.problem_of.Goals as goal

pub bounds-as_slice-from : goal.bounds-as_slice-from
bounds-as_slice-from c =
    let low = has_channel c.args.device.now c.args.routes.now.channels c.args.channel c.requires.routes c.requires.channel in
    omega (arith, low, ap length c.as_slice.ensures, c.from.ensures)

pub invariant_of-result : goal.invariant_of-result
invariant_of-result c = record {
  valid =
      is_problem_of c.args.device.now c.args.routes.now.channels c.args.channel c.args.k c.in_ok-tracks.tracks c.in_ok-connections.connections c.problems_fit.ensures c.requires.routes c.requires.channel c.requires.low c.requires.high
      (c.in_ok-tracks.ensures ∙ c.tracks_of.ensures)
      (connections_are c.args.device.now c.args.routes.now.channels c.args.channel c.from.result c.as_slice.result.now c.index-as_slice-from.result c.as_slice-wirings.result.now c.in_ok-connections.connections c.requires.routes c.requires.channel
      c.from.ensures c.as_slice.ensures c.index-as_slice-from.is c.as_slice-wirings.ensures c.in_ok-connections.ensures);
}

pub returns : goal.returns
returns c = record {
  columns = refl;
  k_is = refl;
  tracks = c.in_ok-tracks.ensures ∙ c.tracks_of.ensures;
  connections =
      connections_are c.args.device.now c.args.routes.now.channels c.args.channel c.from.result c.as_slice.result.now c.index-as_slice-from.result c.as_slice-wirings.result.now c.in_ok-connections.connections c.requires.routes c.requires.channel
      c.from.ensures c.as_slice.ensures c.index-as_slice-from.is c.as_slice-wirings.ensures c.in_ok-connections.ensures;
}
