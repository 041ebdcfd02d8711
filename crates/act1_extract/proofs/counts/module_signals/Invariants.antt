use Rattle.std.proofs.Common.{◌≡◌, ◌≤◌, ◌+◌, length}
use Rattle.act1_meaning.specs.Extracted.{count_below, first_node, is_outside, is_slave}
use Rattle.act1_extract.specs.Parts.{module_signals}
use Rattle.act1_extract.proofs.counts.module_signals.Given as goal

abbrev pub invariant-loop-module : goal.invariant-loop-module
invariant-loop-module l =
    (l.signals.items ≡ module_signals l.circuit l.«module»)
    × (l.latch ≡ length l.circuit.inputs + count_below (is_slave l.circuit) l.«module») × (l.latch ≤ 2112 + l.«module»)
    × (l.node ≡ first_node l.circuit + count_below (is_outside l.circuit) l.«module») × (l.node ≤ 4160 + l.«module»)
