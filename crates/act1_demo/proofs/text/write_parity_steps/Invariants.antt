use Rattle.std.proofs.Common.{◌≡◌, ◌++◌, ◌-◌}
use Rattle.std.specs.List.{flat_map, range_with_len}
use Rattle.act1_base.specs.Words.{text_of_lines}
use Rattle.act1_demo.specs.Text.{parity_step}
use Rattle.act1_demo.proofs.text.write_parity_steps.Given as goal

-- the lines of the first bits are written
abbrev pub invariant-loop-bit : goal.invariant-loop-bit
invariant-loop-bit l = l.text.items ≡ l.initial.text.items ++ text_of_lines (flat_map (parity_step l.bits) (range_with_len 1 (l.bit - 1)))
