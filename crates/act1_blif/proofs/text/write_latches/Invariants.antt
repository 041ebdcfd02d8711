use Rattle.std.proofs.Common.{◌≡◌, ◌++◌, map, take}
use Rattle.act1_base.specs.Words.{text_of_lines}
use Rattle.act1_blif.specs.Text.{latch_words}
use Rattle.act1_blif.proofs.text.write_latches.Given as goal

-- the lines of the first latches are written
abbrev pub invariant-loop-latch : goal.invariant-loop-latch
invariant-loop-latch l = l.text.items ≡ l.initial.text.items ++ text_of_lines (map (latch_words l.blif) (take l.latch-index l.latches))
