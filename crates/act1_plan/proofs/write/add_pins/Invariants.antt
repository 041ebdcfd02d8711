use Rattle.std.proofs.Common.{◌≡◌, ◌∷◌, ◌++◌, map, take}
use Rattle.std.specs.List.{flat_map}
use Rattle.act1_circuit.specs.SourceWords.{source_word}
use Rattle.act1_plan.proofs.write.add_pins.Given as goal

-- the words so far
abbrev pub invariant-loop-pin : goal.invariant-loop-pin
invariant-loop-pin l = l.text.items ≡ l.initial.text.items ++ flat_map (λ w. 32 ∷ w) (map source_word (take l.pin-index l.pins))
