use Rattle.std.proofs.Common.{◌≡◌, ◌++◌, ◌∷◌, map, take}
use Rattle.std.specs.List.{flat_map}
use Rattle.act1_blif.specs.Names.{signal_name}
use Rattle.act1_blif.proofs.text.add_signals.Given as goal

-- the names of the first signals are written
abbrev pub invariant-loop-signal : goal.invariant-loop-signal
invariant-loop-signal l = l.text.items ≡ l.initial.text.items ++ flat_map (λ w. 32 ∷ w) (map (signal_name l.blif) (take l.signal-index l.signals))
