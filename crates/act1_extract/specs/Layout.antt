-- Where the signals of a circuit stand in its netlist, as the code finds it.
use Rattle.std.specs.Prelude.{ℕ, zero, suc, ◌≡◌, ◌+◌, ◌||◌, Bool, false, true, if◌then◌else◌, List, [], ◌∷◌, ◌++◌, length, map, slice_index_or}
use Rattle.act1_blif.specs.declared.blif.Latch.{Latch}
use Rattle.act1_circuit.specs.declared.circuit.Circuit.{Circuit}
use Rattle.act1_circuit.specs.declared.circuit.Start.{Start}
use Rattle.act1_circuit.specs.declared.circuit.Source.{Source}
use Rattle.act1_circuit.specs.declared.circuit.Source.TheVariants.{Zero, One, Clock, Input, Module}
use Rattle.act1_circuit.specs.PairForm.{has_clock, pin_of}
use Rattle.act1_meaning.specs.Extracted.{count_below, first_node, is_outside, is_same, is_slave}
use Rattle.act1_meaning.specs.ArrayNames.{outside_count}
use Rattle.act1_extract.specs.declared.plan.Layout.{Layout}
use Rattle.act1_extract.specs.Parts.{module_signals}

abbrev pub module_number : Source → ℕ
module_number Zero = 0
module_number One = 0
module_number Clock = 0
module_number (Input i) = 0
module_number (Module m) = m

-- the source that the latch of a start takes, by the pins of the slave and of the module that it follows
abbrev pub start_takes : Circuit → Start → Source
start_takes c start = pin_of c (module_number (pin_of c start.module 3)) 0

-- one of these starts' latches takes the source
abbrev pub has_taken : Circuit → Source → List Start → Bool
has_taken c source [] = false
has_taken c source (s ∷ ss) = is_same source (start_takes c s) || has_taken c source ss

-- the signal of an input or a module
abbrev pub found_signal : List ℕ → Source → ℕ
found_signal signals Zero = 0
found_signal signals One = 0
found_signal signals Clock = 0
found_signal signals (Input i) = i
found_signal signals (Module m) = slice_index_or signals m 0

-- the signal that a latch takes
abbrev pub taken_signal : Layout → Source → ℕ
taken_signal l Zero = l.zero_at
taken_signal l One = l.one_at
taken_signal l Clock = 0
taken_signal l (Input i) = found_signal l.signals (Input i)
taken_signal l (Module m) = found_signal l.signals (Module m)

-- the layout is the circuit's
pub record IsLayout (c : Circuit) (l : Layout) : Type 0 where
  pub signals : l.signals ≡ module_signals c (length c.modules)
  pub outside : l.outside ≡ outside_count c
  pub has_zero : l.has_zero ≡ has_taken c Zero c.starts
  pub has_one : l.has_one ≡ has_taken c One c.starts
  pub zero_at : l.zero_at ≡ first_node c + outside_count c
  pub one_at : l.one_at ≡ l.zero_at + (if l.has_zero then 1 else 0)
  pub outputs_at : l.outputs_at ≡ l.one_at + (if l.has_one then 1 else 0)

-- the latch of a start
abbrev pub latch_of : Circuit → Layout → Start → Latch
latch_of c l start = record { name = start.name; input = taken_signal l (start_takes c start); init = start.init }
