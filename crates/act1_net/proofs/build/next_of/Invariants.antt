use Rattle.std.proofs.Common.{◌≡◌, ◌++◌, drop, map}
use Rattle.act1_net.specs.Net.{chosen}
use Rattle.act1_net.specs.BuildSteps.{next_term}
use Rattle.act1_net.proofs.build.next_of.Given as goal

-- with those to come these are all
abbrev pub invariant-loop-at : goal.invariant-loop-at
invariant-loop-at l = l.found ++ chosen (drop l.at l.kept) (map (next_term l.terms l.places) (drop l.at l.latches)) ≡ chosen l.kept (map (next_term l.terms l.places) l.latches)
