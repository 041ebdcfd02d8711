use Rattle.std.proofs.Common.{◌≡◌, map, take}
use Rattle.act1_extract.specs.Layout.{latch_of}
use Rattle.act1_extract.proofs.latches.latches_of.Given as goal

abbrev pub invariant-loop-start : goal.invariant-loop-start
invariant-loop-start l = l.latches ≡ map (latch_of l.circuit l.layout) (take l.start-index l.circuit.starts)
