use Rattle.std.proofs.Common.{◌≡◌, ◌+◌, length, take}
use Rattle.act1_engine.proofs.engine.table_of.Given as goal

-- the bits, and a value for each input so far
abbrev pub invariant-loop-input : goal.invariant-loop-input
invariant-loop-input l = record {
  long : length l.values.items ≡ length l.circuit.modules + l._input;
  bits : take (length l.circuit.modules) l.values.items ≡ l.fn.bits.items;
}
