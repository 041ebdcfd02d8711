use Rattle.std.proofs.Common.{true, length, ◌<◌}
use Rattle.act1_channel.specs.Found.{facts_of}
use Rattle.act1_refute.specs.StatusSteps.{IsAllowedBelow, IsStatus}
use Rattle.act1_refute.proofs.hints.status_of_connection.Given as goal

abbrev pub invariant-loop-track : goal.invariant-loop-track
invariant-loop-track l = IsStatus (facts_of l.trail.entries) (l.connection < length l.problem.connections) true (IsAllowedBelow l.problem l.connection l.track) l.status
