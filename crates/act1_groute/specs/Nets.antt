-- The nets of a plan: what each drives, and where.
use Rattle.std.specs.Prelude.{ℕ, ◌+◌, ◌-◌, ◌==◌, ◌&&◌, nat_le, min, Bool, List, [], ◌∷◌, ◌++◌, length, map, filter, slice_index_or}
use Rattle.std.specs.List.{list_any}
use Rattle.act1_device.specs.declared.device.Device.{Device}
use Rattle.act1_device.specs.declared.device.Line.{Line}
use Rattle.act1_device.specs.declared.device.Line.TheVariants as line
use Rattle.act1_device.specs.Sites.{pin_channel, long_at, pad_at}
use Rattle.act1_circuit.specs.declared.circuit.Output.{Output}
use Rattle.act1_circuit.specs.declared.circuit.Source.{Source}
use Rattle.act1_circuit.specs.declared.circuit.Source.TheVariants.{Input, Module}
use Rattle.act1_circuit.specs.declared.circuit.Spot.{Spot}
use Rattle.act1_plan.specs.declared.plan.Plan.{Plan}
use Rattle.act1_base.specs.Lists.{numbers}
pub use Rattle.act1_plan.specs.Nets.{is_same_source}
pub use Rattle.act1_groute.specs.declared.net.Sink.{Sink}

-- the pins of the module at a spot, from this number on
abbrev pub pin_sinks : Device → Spot → ℕ → List Source → List Sink
pin_sinks dev s pin [] = []
pin_sinks dev s pin (source ∷ sources) =
    (record { source = source; line = line.Pin s.row s.column pin; channel = pin_channel dev s.row pin }) ∷ pin_sinks dev s (pin + 1) sources

-- the pins of all modules
abbrev pub module_sinks : Device → List Spot → List (List Source) → List Sink
module_sinks dev (s ∷ spots) (sources ∷ modules) = pin_sinks dev s 0 sources ++ module_sinks dev spots modules
module_sinks dev [] modules = []
module_sinks dev (s ∷ spots) [] = []

-- the outputs, from this pad on
abbrev pub output_sinks : Device → ℕ → List Output → List Sink
output_sinks dev pad [] = []
output_sinks dev pad (output ∷ outputs) =
    (record { source = output.source; line = line.Pad pad; channel = (pad_at dev pad).channel }) ∷ output_sinks dev (pad + 1) outputs

-- the sinks of a plan: the pins by module and pin, and then the outputs, whose pads follow those of the inputs
abbrev pub sinks : Device → Plan → List Sink
sinks dev plan =
    module_sinks dev plan.placed.spots plan.placed.circuit.modules ++ output_sinks dev (length plan.placed.circuit.inputs) plan.placed.circuit.outputs

-- the nets, by their sources: inputs, then modules
abbrev pub nets : Plan → List Source
nets plan = map Input (numbers 0 (length plan.placed.circuit.inputs)) ++ map Module (numbers 0 (length plan.placed.circuit.modules))

-- the output of the module at a spot
abbrev pub out_line : Spot → Line
out_line s = line.Out s.row s.column

-- the source line of a net: the pad of an input, the output of a module
abbrev pub source_line : Plan → Source → Line
source_line plan (Input i) = line.Pad i
source_line plan (Module m) = out_line (slice_index_or plan.placed.spots m (record { row = 0; column = 0 }))
source_line plan constant = line.Pad 0

-- the lowest and the highest channel that a line crosses; it crosses all between
abbrev pub lowest : Device → Line → ℕ
lowest dev (line.Pin row column pin) = pin_channel dev row pin
lowest dev (line.Out row column) = row - dev.below
lowest dev (line.Long column index) = (long_at dev index).low
lowest dev (line.Pad pad) = (pad_at dev pad).channel

abbrev pub highest : Device → Line → ℕ
highest dev (line.Pin row column pin) = pin_channel dev row pin
highest dev (line.Out row column) = min (row + 1 + dev.above) dev.rows
highest dev (line.Long column index) = (long_at dev index).high
highest dev (line.Pad pad) = (pad_at dev pad).channel

-- the line covers the channel
abbrev pub covers : Device → Line → ℕ → Bool
covers dev l channel = nat_le (lowest dev l) channel && nat_le channel (highest dev l)

-- the sink is one of this net in this channel
abbrev pub is_sink_of : Source → ℕ → Sink → Bool
is_sink_of net channel sink = is_same_source sink.source net && (sink.channel == channel)

-- the lines of the net's sinks in a channel
abbrev pub sink_lines : Device → Plan → Source → ℕ → List Line
sink_lines dev plan net channel = map (λ (s : Sink). s.line) (filter (is_sink_of net channel) (sinks dev plan))

-- the net has a sink in the channel
abbrev pub is_needed : Device → Plan → Source → ℕ → Bool
is_needed dev plan net channel = list_any (is_sink_of net channel) (sinks dev plan)

-- the channels of a device
abbrev pub channels : Device → List ℕ
channels dev = numbers 0 (dev.rows + 1)
