use Rattle.std.proofs.Common.{◌≡◌, ◌++◌, take}
use Rattle.act1_base.specs.Words.{text_of_lines}
use Rattle.act1_cover.specs.Text.{fork_lines}
use Rattle.act1_cover.proofs.text.write_forks.Given as goal

abbrev pub invariant-loop-number : goal.invariant-loop-number
invariant-loop-number l = l.text.items ≡ l.initial.text.items ++ text_of_lines (fork_lines 0 (take l.number l.forks))
