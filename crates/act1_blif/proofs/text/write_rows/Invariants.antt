use Rattle.std.proofs.Common.{◌≡◌, ◌++◌, map, take}
use Rattle.act1_base.specs.Words.{text_of_lines}
use Rattle.act1_logic.specs.declared.cover.Row.{Row}
use Rattle.act1_blif.specs.Text.{row_words}
use Rattle.act1_blif.proofs.text.write_rows.Given as goal

-- the lines of the first rows are written
abbrev pub invariant-loop-row : goal.invariant-loop-row
invariant-loop-row l = l.text.items ≡ l.initial.text.items ++ text_of_lines (map (λ (row : Row). row_words l.output row.marks) (take l.row-index l.rows))
