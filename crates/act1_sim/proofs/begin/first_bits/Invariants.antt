use Rattle.std.proofs.Common.{length, take}
use Rattle.act1_sim.specs.Cycles.{AreFirstBits}
use Rattle.act1_sim.proofs.begin.first_bits.Given as goal

-- the starts so far have declared their bits
abbrev pub invariant-loop-start : goal.invariant-loop-start
invariant-loop-start l = AreFirstBits (take l.start-index l.start-items) (length l.circuit.modules) l.fill l.bits.items
