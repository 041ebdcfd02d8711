use Rattle.std.proofs.Common.{◌≡◌, ◌++◌, take}
use Rattle.std.specs.List.{filter_map}
use Rattle.act1_map.specs.CoverSteps.{input_signal}
use Rattle.act1_map.proofs.reads.add_inputs.Given as goal

-- the signals of the first pins were added
abbrev pub invariant-loop-pin : goal.invariant-loop-pin
invariant-loop-pin l = l.reads ≡ l.fn.reads ++ filter_map (input_signal l.inputs) (take l.pin-index l.pins)
