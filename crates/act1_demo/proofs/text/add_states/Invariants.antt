use Rattle.std.proofs.Common.{◌≡◌, ◌++◌, ◌∷◌, map}
use Rattle.std.specs.List.{flat_map, range_with_len}
use Rattle.act1_demo.specs.Text.{state_name}
use Rattle.act1_demo.proofs.text.add_states.Given as goal

-- the names of the first bits are written
abbrev pub invariant-loop-bit : goal.invariant-loop-bit
invariant-loop-bit l = l.text.items ≡ l.initial.text.items ++ flat_map (λ word. 32 ∷ word) (map state_name (range_with_len 0 l.bit))
