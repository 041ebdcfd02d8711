use Rattle.std.proofs.Common.{◌≡◌, ◌++◌, map, take}
use Rattle.act1_blif.specs.Run.{signal}
use Rattle.act1_demo.specs.Shown.{digit}
use Rattle.act1_demo.proofs.shown.write_outputs.Given as goal

-- the characters of the first outputs are written
abbrev pub invariant-loop-output : goal.invariant-loop-output
invariant-loop-output l = l.text.items ≡ l.initial.text.items ++ map digit (map (signal l.values) (take l.output-index l.output-items))
