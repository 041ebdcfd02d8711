use Rattle.act1_engine.proofs.WiringSteps.{WiringAt}
use Rattle.act1_engine.proofs.wiring.wiring_of.Given as goal

-- the pins so far stand in the tables
abbrev pub invariant-loop-pin : goal.invariant-loop-pin
invariant-loop-pin l = WiringAt l.circuit l.pin l.slots.items l.lasts.items l.befores.items
