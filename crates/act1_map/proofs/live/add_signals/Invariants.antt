use Rattle.std.proofs.Common.{◌≡◌, ◌++◌, take}
use Rattle.std.specs.List.{filter_map}
use Rattle.act1_net.specs.Gates.{signal_of}
use Rattle.act1_map.proofs.live.add_signals.Given as goal

-- the signals among the first terms went last
abbrev pub invariant-loop-term : goal.invariant-loop-term
invariant-loop-term l = l.signals.items ≡ l.fn.signals.items ++ filter_map signal_of (take l.term-index l.terms)
