use Rattle.act1_flow.specs.Steps.{AreFirstProblems}
use Rattle.act1_flow.proofs.assigning.problems_of.Given as goal

-- the channels so far have these problems
abbrev pub invariant-loop-channel : goal.invariant-loop-channel
invariant-loop-channel l = AreFirstProblems l.device l.plan l.routes.channels l.channel l.problems
