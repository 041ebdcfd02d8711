use Rattle.std.proofs.Common.{◌≡◌, ◌++◌, map, take}
use Rattle.act1_base.specs.Words.{text_of_lines}
use Rattle.act1_table.specs.Table.{table_of}
use Rattle.act1_logtext.specs.WriteSteps.{step_line_words}
use Rattle.act1_logtext.proofs.steps.write_steps.Given as goal

-- the lines so far
abbrev pub invariant-loop-step : goal.invariant-loop-step
invariant-loop-step l = l.text.items ≡ l.initial.text.items ++ text_of_lines (map (step_line_words (table_of l.table) l.form) (take l.step-index l.steps))
