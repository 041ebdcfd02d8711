use Rattle.std.proofs.Common.{◌≡◌, take}
use Rattle.act1_job.specs.Lines.{numbers_line}
use Rattle.act1_job.proofs.write.numbers_line.Given as goal

-- the line of the numbers so far
abbrev pub invariant-loop-n : goal.invariant-loop-n
invariant-loop-n l = l.line ≡ numbers_line l.fn.form (take l.n-index l.numbers)
