use Rattle.std.proofs.Common.{length, drop, false, replicate}
use Rattle.act1_demo.specs.Shown.{vectors_of}
use Rattle.act1_demo.specs.ShownSteps.{IsShownSoFar}
use Rattle.act1_demo.proofs.shown.lines_over.Given as goal

-- the cycles to come decide
abbrev pub invariant-loop-input : goal.invariant-loop-input
invariant-loop-input l =
    IsShownSoFar l.net (replicate (length l.net.latches) false) (vectors_of l.inputs) l.state.items (vectors_of (drop l.input-index l.inputs)) l.text.items
