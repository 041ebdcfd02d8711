use Rattle.std.proofs.Common.{◌≡◌, ◌++◌, map, take}
use Rattle.act1_blif.specs.Text.{mark_byte}
use Rattle.act1_blif.proofs.text.add_marks.Given as goal

-- the first marks are written
abbrev pub invariant-loop-mark : goal.invariant-loop-mark
invariant-loop-mark l = l.text.items ≡ l.initial.text.items ++ map mark_byte (take l.mark-index l.marks)
