use Rattle.std.proofs.Common.{◌≡◌, drop}
use Rattle.act1_extract.specs.Layout.{has_taken}
use Rattle.act1_extract.proofs.layout.has_taken.Given as goal

-- what is to come decides
abbrev pub invariant-loop-start : goal.invariant-loop-start
invariant-loop-start l = has_taken l.circuit l.source (drop l.start-index l.circuit.starts) ≡ has_taken l.circuit l.source l.circuit.starts
