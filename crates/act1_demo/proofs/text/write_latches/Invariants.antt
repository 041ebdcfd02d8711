use Rattle.std.proofs.Common.{◌≡◌, ◌++◌, map}
use Rattle.std.specs.List.{range_with_len}
use Rattle.act1_base.specs.Words.{text_of_lines}
use Rattle.act1_demo.specs.Text.{latch_words}
use Rattle.act1_demo.proofs.text.write_latches.Given as goal

-- the lines of the first latches are written
abbrev pub invariant-loop-bit : goal.invariant-loop-bit
invariant-loop-bit l = l.text.items ≡ l.initial.text.items ++ text_of_lines (map latch_words (range_with_len 0 l.bit))
