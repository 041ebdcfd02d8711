use Rattle.std.proofs.Common.{◌≡◌, map, take}
use Rattle.act1_net.specs.Net.{place_in}
use Rattle.act1_net.proofs.build.moved.Given as goal

abbrev pub invariant-loop-signal : goal.invariant-loop-signal
invariant-loop-signal l = l.numbers ≡ map (place_in l.places) (take l.signal-index l.signals)
