use Rattle.std.proofs.Common.{◌≡◌, drop}
use Rattle.act1_blifread.specs.Parts.{clock_of}
use Rattle.act1_blifread.proofs.clocks.clock_of.Given as goal

-- what is to come decides
abbrev pub invariant-loop-numbered : goal.invariant-loop-numbered
invariant-loop-numbered l = clock_of (drop l.numbered-index l.statements) ≡ clock_of l.statements
