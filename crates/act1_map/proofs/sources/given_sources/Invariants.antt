use Rattle.std.proofs.Common.{◌≡◌, ◌++◌, length, replicate}
use Rattle.act1_circuit.specs.declared.circuit.Source.TheVariants.{Zero, Input, Module}
use Rattle.act1_map.specs.MapSteps.{at_first, slave_at}
use Rattle.act1_map.proofs.sources.given_sources.Given as goal

-- the first inputs
abbrev pub invariant-loop-input : goal.invariant-loop-input
invariant-loop-input l = l.sources.items ≡ at_first Input l.input

-- and the first latches have their sources
abbrev pub invariant-loop-latch : goal.invariant-loop-latch
invariant-loop-latch l = l.sources.items ≡ at_first Input (length l.blif.inputs) ++ at_first (λ j. Module (slave_at l.tiles j)) l.latch

abbrev pub invariant-loop-node : goal.invariant-loop-node
invariant-loop-node l = l.sources.items ≡ at_first Input (length l.blif.inputs) ++ at_first (λ j. Module (slave_at l.tiles j)) (length l.blif.latches) ++ replicate l._node Zero
