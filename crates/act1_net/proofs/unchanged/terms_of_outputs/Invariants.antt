use Rattle.std.proofs.Common.{◌≡◌, map, take}
use Rattle.act1_net.specs.declared.net.NetTerm.TheVariants as term
use Rattle.act1_net.proofs.unchanged.terms_of_outputs.Given as goal

abbrev pub invariant-loop-signal : goal.invariant-loop-signal
invariant-loop-signal l = l.terms ≡ map term.Signal (take l.signal-index l.outputs)
