use Rattle.std.proofs.Common.{◌≡◌, ◌++◌, drop}
use Rattle.act1_emit.specs.File.{ports_from}
use Rattle.act1_emit.proofs.file.in_ports.Given as goal

-- the ports so far, and those of the names to come
abbrev pub invariant-loop-i : goal.invariant-loop-i
invariant-loop-i l = l.ports.items ++ ports_from l.i (drop l.i l.names) ≡ ports_from 0 l.names
