use Rattle.std.proofs.Common.{◌≡◌, map, take}
use Rattle.act1_net.specs.BuildSteps.{moved_term}
use Rattle.act1_net.specs.Gates.{term_of}
use Rattle.act1_net.proofs.build.outputs_of.Given as goal

abbrev pub invariant-loop-signal : goal.invariant-loop-signal
invariant-loop-signal l = l.found ≡ map (moved_term l.places) (map (term_of l.terms) (take l.signal-index l.outputs))
