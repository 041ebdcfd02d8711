use Rattle.std.proofs.Common.{◌≡◌, ◌++◌, map, take}
use Rattle.act1_base.specs.Words.{text_of_lines}
use Rattle.act1_plan.specs.Texts.{output_words}
use Rattle.act1_plan.proofs.write.write_outputs.Given as goal

-- the lines so far
abbrev pub invariant-loop-output : goal.invariant-loop-output
invariant-loop-output l = l.text.items ≡ l.initial.text.items ++ text_of_lines (map output_words (take l.output-index l.outputs))
