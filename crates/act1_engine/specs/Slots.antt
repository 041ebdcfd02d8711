-- The table of values of a circuit: the bits of its modules, its inputs, the constants 0 and 1, and the clock, one behind the other. A source has a slot in it.
use Rattle.std.specs.Prelude.{ℕ, ◌+◌, ◌-◌, ◌*◌, ◌/◌, ◌%◌, ◌^◌, ◌≡◌, ◌≢◌, ◌<◌, ◌≤◌, List, [], length, slice_index_or}
use Rattle.act1_circuit.specs.declared.circuit.Circuit.{Circuit}
use Rattle.act1_circuit.specs.declared.circuit.Source.{Source}
use Rattle.act1_circuit.specs.declared.circuit.Source.TheVariants.{Zero, One, Clock, Input, Module}
use Rattle.act1_engine.specs.declared.wiring.Wiring.{Wiring}

-- how many slots there are
abbrev pub slot_count : Circuit → ℕ
slot_count c = length c.modules + length c.inputs + 3

-- where the value of a source stands
abbrev pub slot_of : Circuit → Source → ℕ
slot_of c (Module m) = m
slot_of c (Input i) = length c.modules + i
slot_of c Zero = length c.modules + length c.inputs
slot_of c One = length c.modules + length c.inputs + 1
slot_of c Clock = length c.modules + length c.inputs + 2

-- the source at a pin, where the pins are numbered module by module, eight a module
abbrev pub pin_source : Circuit → ℕ → Source
pin_source c pin = slice_index_or (slice_index_or c.modules (pin / 8) []) (pin % 8) Zero

-- of the pins before end one less than link is the last at this slot, or none is and link is 0
pub record IsLast (slot : ℕ → ℕ) (at end link : ℕ) : Type 0 where
  pub before : link ≤ end
  pub there : 0 < link → slot (link - 1) ≡ at
  pub last : (pin : ℕ) → link ≤ pin → pin < end → slot pin ≢ at

-- the number at a place of a table
abbrev pub entry : List ℕ → ℕ → ℕ
entry table at = slice_index_or table at 0

-- from each slot the pins that have it can be walked, from the last to the first
pub record IsLinked (wiring : Wiring) : Type 0 where
  pub lasts : (at : ℕ) → at < length wiring.lasts.items → IsLast (entry wiring.slots.items) at (length wiring.slots.items) (entry wiring.lasts.items at)
  pub few : length wiring.slots.items < 2 ^ 32
  pub long : length wiring.befores.items ≡ length wiring.slots.items
  pub befores : (pin : ℕ) → pin < length wiring.slots.items → IsLast (entry wiring.slots.items) (entry wiring.slots.items pin) pin (entry wiring.befores.items pin)

-- the table of pins is that of the circuit
pub record IsWiringOf (c : Circuit) (wiring : Wiring) : Type 0 where
  pub all : length wiring.slots.items ≡ 8 * length c.modules
  pub slots : (pin : ℕ) → pin < 8 * length c.modules → entry wiring.slots.items pin ≡ slot_of c (pin_source c pin)
  pub within : (pin : ℕ) → pin < 8 * length c.modules → entry wiring.slots.items pin < slot_count c
  pub count : length wiring.lasts.items ≡ slot_count c
  pub linked : IsLinked wiring
