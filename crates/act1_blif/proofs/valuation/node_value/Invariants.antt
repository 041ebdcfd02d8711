use Rattle.std.proofs.Common.{◌≡◌, map, take}
use Rattle.act1_blif.specs.Run.{signal}
use Rattle.act1_blif.proofs.valuation.node_value.Given as goal

-- the values of the first inputs
abbrev pub invariant-loop-signal : goal.invariant-loop-signal
invariant-loop-signal l = l.own.items ≡ map (signal l.values) (take l.signal-index l.node.inputs)
