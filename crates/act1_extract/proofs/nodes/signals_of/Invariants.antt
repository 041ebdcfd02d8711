use Rattle.std.proofs.Common.{◌≡◌, map, take}
use Rattle.act1_extract.specs.Layout.{found_signal}
use Rattle.act1_extract.proofs.nodes.signals_of.Given as goal

abbrev pub invariant-loop-source : goal.invariant-loop-source
invariant-loop-source l = l.found ≡ map (found_signal l.signals) (take l.source-index l.sources)
