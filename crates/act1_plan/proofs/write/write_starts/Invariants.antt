use Rattle.std.proofs.Common.{◌≡◌, ◌++◌, map, take}
use Rattle.act1_base.specs.Words.{text_of_lines}
use Rattle.act1_plan.specs.Texts.{start_words}
use Rattle.act1_plan.proofs.write.write_starts.Given as goal

-- the lines so far
abbrev pub invariant-loop-start : goal.invariant-loop-start
invariant-loop-start l = l.text.items ≡ l.initial.text.items ++ text_of_lines (map start_words (take l.start-index l.starts))
