-- The circuit that an antifuse file makes of a device, and when the array is sound.
use Rattle.std.specs.Prelude.{ℕ, ◌≡◌, ◌↔◌, ◌<◌, List, length, map, slice_get, Option, Some, All, Contains}
use Rattle.act1_base.specs.Rising.{Rises}
use Rattle.act1_device.specs.declared.device.Device.{Device}
use Rattle.act1_device.specs.declared.device.Line.TheVariants as line
use Rattle.act1_device.specs.declared.device.Track.{Track}
use Rattle.act1_device.specs.declared.device.Site.{Site}
use Rattle.act1_device.specs.declared.device.Site.TheVariants.{Cross}
use Rattle.act1_device.specs.declared.device.Wire.{Wire}
use Rattle.act1_device.specs.declared.device.Wire.TheVariants as wire
use Rattle.act1_circuit.specs.declared.circuit.Output.{Output}
use Rattle.act1_circuit.specs.declared.circuit.Start.{Start}
use Rattle.act1_circuit.specs.declared.circuit.Source.{Source}
use Rattle.act1_circuit.specs.declared.circuit.Source.TheVariants.{Zero, One, Clock, Input, Module}
use Rattle.act1_circuit.specs.declared.circuit.Spot.{Spot}
use Rattle.act1_circuit.specs.declared.circuit.Placed.{Placed}
use Rattle.act1_circuit.specs.Spots.{SpotIsBefore}
use Rattle.act1_fuses.specs.declared.fuses.FuseFile.{FuseFile}
use Rattle.act1_fuses.specs.declared.fuses.Port.{Port}
use Rattle.act1_fuses.specs.declared.fuses.StartAt.{StartAt}
use Rattle.act1_fuses.specs.Wires.{Joined}

-- the wire of a pad
abbrev pub pad_wire : ℕ → Wire
pad_wire pad = wire.Vertical (line.Pad pad)

-- the wire of a module's output
abbrev pub out_wire : Spot → Wire
out_wire s = wire.Vertical (line.Out s.row s.column)

-- the wire of a module's pin
abbrev pub pin_wire : Spot → ℕ → Wire
pin_wire s pin = wire.Vertical (line.Pin s.row s.column pin)

-- the module at the spot is used: a listed site has its output as an end
abbrev pub IsUsed : List Site → Spot → Type 0
IsUsed sites s = (channel : ℕ) × (track : Track) × Contains sites (Cross channel track (line.Out s.row s.column))

-- the sources: ground, power, the clock, the pads of inputs and the outputs of used modules
abbrev pub IsSource : FuseFile → Wire → Type 0
IsSource f wire.Gnd = Unit {0}
IsSource f wire.Vcc = Unit {0}
IsSource f wire.Clk = Unit {0}
IsSource f (wire.Vertical (line.Pad pad)) = Contains (map (λ (port : Port). port.pad) f.ins) pad
IsSource f (wire.Vertical (line.Out row column)) = IsUsed f.sites (record { row = row; column = column })
IsSource f w = ⊥

-- some source is joined to the wire
abbrev pub IsFed : Device → FuseFile → Wire → Type 0
IsFed dev f w = (source : Wire) × IsSource f source × Joined dev f.sites source w

-- the array drives no wire twice and leaves nothing open
pub record Sound (dev : Device) (f : FuseFile) : Type 0 where
  -- no two different sources are joined
  pub apart : (a b : Wire) → IsSource f a → IsSource f b → Joined dev f.sites a b → a ≡ b
  -- each pin of a used module is joined to a source
  pub pins : (s : Spot) (pin : ℕ) → IsUsed f.sites s → pin < 8 → IsFed dev f (pin_wire s pin)
  -- each pad of an output is joined to a source
  pub outputs : All (λ (port : Port). IsFed dev f (pad_wire port.pad)) f.outs
  -- each start stands at a used module
  pub starts : All (λ (start : StartAt). IsUsed f.sites start.spot) f.starts

-- the wire of a source, where the modules stand at these spots
abbrev pub IsWireOf : FuseFile → List Spot → Source → Wire → Type 0
IsWireOf f spots Zero w = w ≡ wire.Gnd
IsWireOf f spots One w = w ≡ wire.Vcc
IsWireOf f spots Clock w = w ≡ wire.Clk
IsWireOf f spots (Input i) w = (port : Port) × (slice_get f.ins i ≡ Some port) × (w ≡ pad_wire port.pad)
IsWireOf f spots (Module m) w = (s : Spot) × (slice_get spots m ≡ Some s) × (w ≡ out_wire s)

-- the source's wire is joined to this one
abbrev pub Drives : Device → FuseFile → List Spot → Source → Wire → Type 0
Drives dev f spots source w = (from : Wire) × IsWireOf f spots source from × Joined dev f.sites from w

-- what a start says: the latch's name and init, and the spot of the module
abbrev pub Beginning : Type 0
Beginning = List ℕ × ℕ × Option Spot

-- p is the circuit of the array: the used modules in site order, each pin and each output with the source that it is joined to, and the file's clock, inputs, outputs and starts in their order
pub record IsCircuitOf (p : Placed) (dev : Device) (f : FuseFile) : Type 0 where
  pub rise : Rises SpotIsBefore p.spots
  pub used : (s : Spot) → IsUsed f.sites s ↔ Contains p.spots s
  pub modules : length p.circuit.modules ≡ length p.spots
  pub eight : All (λ (sources : List Source). length sources ≡ 8) p.circuit.modules
  pub pins : (m k : ℕ) (s : Spot) (sources : List Source) (source : Source) → slice_get p.spots m ≡ Some s → slice_get p.circuit.modules m ≡ Some sources → slice_get sources k ≡ Some source
      → Drives dev f p.spots source (pin_wire s k)
  pub outputs : (k : ℕ) (port : Port) (output : Output) → slice_get f.outs k ≡ Some port → slice_get p.circuit.outputs k ≡ Some output
      → Drives dev f p.spots output.source (pad_wire port.pad)
  pub output_names : map (λ (output : Output). output.name) p.circuit.outputs ≡ map (λ (port : Port). port.name) f.outs
  pub clock : p.circuit.clock ≡ f.clock
  pub inputs : p.circuit.inputs ≡ map (λ (port : Port). port.name) f.ins
  pub starts : map {B = Beginning} (λ (start : Start). (start.name, start.init, slice_get p.spots start.module)) p.circuit.starts
      ≡ map {B = Beginning} (λ (start : StartAt). (start.name, start.init, Some start.spot)) f.starts
