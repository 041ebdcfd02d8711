use Rattle.std.proofs.Common.{◌≡◌, map, take}
use Rattle.act1_net.specs.Gates.{term_of}
use Rattle.act1_net.proofs.left.terms_of.Given as goal

-- the terms of the first signals
abbrev pub invariant-loop-signal : goal.invariant-loop-signal
invariant-loop-signal l = l.own ≡ map (term_of l.terms) (take l.signal-index l.signals)
