use Rattle.std.proofs.Common.{◌≡◌, ◌++◌, map, take}
use Rattle.act1_base.specs.Words.{text_of_lines}
use Rattle.act1_plan.specs.Texts.{input_words}
use Rattle.act1_plan.proofs.write.write_inputs.Given as goal

-- the lines so far
abbrev pub invariant-loop-name : goal.invariant-loop-name
invariant-loop-name l = l.text.items ≡ l.initial.text.items ++ text_of_lines (map input_words (take l.name-index l.inputs))
