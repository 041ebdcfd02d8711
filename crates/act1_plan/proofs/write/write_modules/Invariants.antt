use Rattle.std.proofs.Common.{◌≡◌, ◌++◌, drop}
use Rattle.act1_base.specs.Words.{text_of_lines}
use Rattle.act1_plan.specs.Texts.{modules_words}
use Rattle.act1_plan.proofs.write.write_modules.Given as goal

-- the lines so far, and those of the modules to come
abbrev pub invariant-loop-at : goal.invariant-loop-at
invariant-loop-at l = l.text.items ++ text_of_lines (modules_words (drop l.at l.spots) (drop l.at l.modules)) ≡ l.initial.text.items ++ text_of_lines (modules_words l.spots l.modules)
