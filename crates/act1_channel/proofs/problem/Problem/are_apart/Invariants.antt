use Rattle.act1_channel.proofs.AssignmentLemmas.{AreApartBelow, IsApartFrom}
use Rattle.act1_channel.proofs.problem.Problem.are_apart.Given as goal

abbrev pub invariant-loop-d : goal.invariant-loop-d
invariant-loop-d l = AreApartBelow l.self l.tracks l.d

abbrev pub invariant-loop-c : goal.invariant-loop-c
invariant-loop-c l = AreApartBelow l.self l.tracks l.d × IsApartFrom l.self l.tracks l.d l.c
