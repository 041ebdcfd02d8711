use Rattle.act1_channel.proofs.AssignmentLemmas.{AreAllowedBelow}
use Rattle.act1_channel.proofs.problem.Problem.are_allowed.Given as goal

abbrev pub invariant-loop-c : goal.invariant-loop-c
invariant-loop-c l = AreAllowedBelow l.self l.tracks l.c
