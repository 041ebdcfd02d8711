use Rattle.std.proofs.Common.{◌≡◌, take}
use Rattle.std.specs.List.{filter_map}
use Rattle.act1_net.specs.Gates.{signal_of}
use Rattle.act1_net.proofs.left.signals_in.Given as goal

-- the signals among the first terms
abbrev pub invariant-loop-term : goal.invariant-loop-term
invariant-loop-term l = l.signals ≡ filter_map signal_of (take l.term-index l.terms)
