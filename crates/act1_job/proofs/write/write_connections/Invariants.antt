use Rattle.std.proofs.Common.{◌≡◌, ◌++◌, map, take}
use Rattle.act1_base.specs.Words.{text_of_lines}
use Rattle.act1_job.specs.WriteSteps.{connection_words}
use Rattle.act1_job.proofs.write.write_connections.Given as goal

-- the lines so far
abbrev pub invariant-loop-connection : goal.invariant-loop-connection
invariant-loop-connection l = l.text.items ≡ l.initial.text.items ++ text_of_lines (map connection_words (take l.connection-index l.connections))
