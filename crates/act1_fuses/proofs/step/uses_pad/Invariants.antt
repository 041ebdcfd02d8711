use Rattle.std.proofs.Common.{◌≡◌, drop}
use Rattle.act1_fuses.specs.Reading.{uses_pad}
use Rattle.act1_fuses.proofs.step.uses_pad.Given as goal

-- the ports to come decide
abbrev pub invariant-loop-port : goal.invariant-loop-port
invariant-loop-port l = uses_pad l.pad (drop l.port-index l.ports) ≡ uses_pad l.pad l.ports
