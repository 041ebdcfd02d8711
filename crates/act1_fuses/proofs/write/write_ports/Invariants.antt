use Rattle.std.proofs.Common.{◌≡◌, ◌++◌, map, take}
use Rattle.act1_base.specs.Words.{text_of_lines}
use Rattle.act1_fuses.specs.Text.{port_words}
use Rattle.act1_fuses.proofs.write.write_ports.Given as goal

-- the lines of the first ports are written
abbrev pub invariant-loop-port : goal.invariant-loop-port
invariant-loop-port l = l.text.items ≡ l.initial.text.items ++ text_of_lines (map (port_words l.word) (take l.port-index l.ports))
