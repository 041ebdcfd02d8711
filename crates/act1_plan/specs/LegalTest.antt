-- The test of a plan's legality, part by part.
use Rattle.std.specs.Prelude.{ℕ, ◌-◌, Bool, true, false, not, ◌&&◌, ◌||◌, ◌==◌, nat_le, nat_lt, List, [], ◌∷◌, length, Option, Some, None}
use Rattle.std.specs.List.{list_all, list_any}
use Rattle.std.specs.Str.{bytes_eq}
use Rattle.act1_base.specs.Names.{is_name}
use Rattle.act1_device.specs.declared.device.Device.{Device}
use Rattle.act1_circuit.specs.declared.circuit.Circuit.{Circuit}
use Rattle.act1_circuit.specs.declared.circuit.Output.{Output}
use Rattle.act1_circuit.specs.declared.circuit.Source.{Source}
use Rattle.act1_circuit.specs.declared.circuit.Source.TheVariants as source
use Rattle.act1_circuit.specs.declared.circuit.Spot.{Spot}
use Rattle.act1_circuit.specs.declared.circuit.Start.{Start}
use Rattle.act1_plan.specs.Order.{spot_is_before}
use Rattle.act1_plan.specs.declared.plan.Plan.{Plan}

-- the circuit has the source
abbrev pub has_source : Circuit → Source → Bool
has_source c (source.Input i) = nat_lt i (length c.inputs)
has_source c (source.Module m) = nat_lt m (length c.modules)
has_source c source.Zero = true
has_source c source.One = true
has_source c source.Clock = true

abbrev pub has_sources : Circuit → List Source → Bool
has_sources c pins = list_all (has_source c) pins

-- eight sources of the circuit
abbrev pub are_pins : Circuit → List Source → Bool
are_pins c pins = (length pins == 8) && has_sources c pins

abbrev pub is_clock : Source → Bool
is_clock source.Clock = true
is_clock source.Zero = false
is_clock source.One = false
is_clock (source.Input i) = false
is_clock (source.Module m) = false

-- the output has a name, and a source that isn't the clock
abbrev pub is_output : Circuit → Output → Bool
is_output c o = is_name o.name && (not (is_clock o.source) && has_source c o.source)

-- the start stands at a module, with an init of 0 to 3 and a name
abbrev pub is_start : Circuit → Start → Bool
is_start c s = is_name s.name && (nat_le s.init 3 && nat_lt s.module (length c.modules))

-- the numbers can tell apart as many inputs, outputs and modules
abbrev pub are_few : Circuit → Bool
are_few c = nat_le (length c.inputs) 65535 && (nat_le (length c.outputs) 65535 && nat_le (length c.modules) 65535)

-- starts rise by their modules, behind the module of this number, if there is one
abbrev pub starts_rise : Option ℕ → List Start → Bool
starts_rise before [] = true
starts_rise None (s ∷ starts) = starts_rise (Some s.module) starts
starts_rise (Some m) (s ∷ starts) = nat_lt m s.module && starts_rise (Some s.module) starts

-- spots rise, behind this one, if there is one
abbrev pub spots_rise : Option Spot → List Spot → Bool
spots_rise before [] = true
spots_rise None (s ∷ spots) = spots_rise (Some s) spots
spots_rise (Some t) (s ∷ spots) = spot_is_before t s && spots_rise (Some s) spots

abbrev pub is_on_device : Device → Spot → Bool
is_on_device dev s = nat_lt s.row dev.rows && nat_lt s.column dev.columns

-- the name is one of these
abbrev pub is_input_name : List ℕ → List (List ℕ) → Bool
is_input_name name inputs = list_any (bytes_eq name) inputs

abbrev pub is_output_name : List ℕ → List Output → Bool
is_output_name name outputs = list_any (λ (o : Output). bytes_eq name o.name) outputs

abbrev pub is_start_name : List ℕ → List Start → Bool
is_start_name name starts = list_any (λ (s : Start). bytes_eq name s.name) starts

-- no two latches have one name
abbrev pub starts_differ : List Start → Bool
starts_differ [] = true
starts_differ (s ∷ starts) = not (is_start_name s.name starts) && starts_differ starts

-- no two inputs have one name, and none has that of a latch
abbrev pub inputs_differ : List Start → List (List ℕ) → Bool
inputs_differ starts [] = true
inputs_differ starts (name ∷ inputs) = not (is_input_name name inputs || is_start_name name starts) && inputs_differ starts inputs

-- no two outputs have one name
abbrev pub outputs_differ : List Output → Bool
outputs_differ [] = true
outputs_differ (o ∷ outputs) = not (is_output_name o.name outputs) && outputs_differ outputs

-- the name is an input's, an output's or a latch's
abbrev pub is_taken : Circuit → List ℕ → Bool
is_taken c name = is_input_name name c.inputs || (is_output_name name c.outputs || is_start_name name c.starts)

-- the clock's name is a name, and none of the others
abbrev pub is_clock_apart : Circuit → Option (List ℕ) → Bool
is_clock_apart c None = true
is_clock_apart c (Some name) = is_name name && not (is_taken c name)

abbrev pub are_names : List (List ℕ) → Bool
are_names names = list_all is_name names

-- no two of the inputs and latches have one name
abbrev pub inside_differs : Circuit → Bool
inside_differs c = inputs_differ c.starts c.inputs && starts_differ c.starts

abbrev pub outside_differs : Circuit → Bool
outside_differs c = outputs_differ c.outputs && is_clock_apart c c.clock

abbrev pub has_names : Circuit → Bool
has_names c = are_names c.inputs && (inside_differs c && outside_differs c)

abbrev pub are_modules : Circuit → Bool
are_modules c = list_all (are_pins c) c.modules

abbrev pub are_outputs : Circuit → Bool
are_outputs c = list_all (is_output c) c.outputs

abbrev pub all_starts : Circuit → Bool
all_starts c = list_all (is_start c) c.starts

abbrev pub are_starts : Circuit → Bool
are_starts c = all_starts c && starts_rise None c.starts

abbrev pub is_circuit : Circuit → Bool
is_circuit c = are_few c && (are_modules c && (are_outputs c && (are_starts c && has_names c)))

abbrev pub are_on_device : Device → List Spot → Bool
are_on_device dev spots = list_all (is_on_device dev) spots

-- a spot of the device for each module, in site order
abbrev pub are_spots : Device → Plan → Bool
are_spots dev plan = (length plan.placed.spots == length plan.placed.circuit.modules) && (are_on_device dev plan.placed.spots && spots_rise None plan.placed.spots)

-- a pad for each input and each output
abbrev pub has_pads : Device → Circuit → Bool
has_pads dev c = nat_le (length c.inputs) (length dev.pads) && nat_le (length c.outputs) (length dev.pads - length c.inputs)

abbrev pub is_k : ℕ → Bool
is_k k = nat_le 1 k && nat_le k 64

-- all but the device's name
abbrev pub is_legal_but : Device → Plan → Bool
is_legal_but dev plan = is_k plan.k && (has_pads dev plan.placed.circuit && (are_spots dev plan && is_circuit plan.placed.circuit))
