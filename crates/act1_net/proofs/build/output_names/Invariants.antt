use Rattle.std.proofs.Common.{◌≡◌, map, take}
use Rattle.act1_blif.specs.Names.{signal_name}
use Rattle.act1_net.proofs.build.output_names.Given as goal

abbrev pub invariant-loop-signal : goal.invariant-loop-signal
invariant-loop-signal l = l.names ≡ map (signal_name l.blif) (take l.signal-index l.blif.outputs)
