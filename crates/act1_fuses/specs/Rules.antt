-- The rules that an antifuse file keeps for its device. They are this project's own.
use Rattle.std.specs.Prelude.{ℕ, ◌≡◌, ◌≢◌, ◌<◌, ◌≤◌, IsTrue, List, ◌++◌, length, map, Option, All, AllPairs, IfSome}
use Rattle.act1_base.specs.Names.{is_name}
use Rattle.act1_base.specs.Rising.{Rises}
use Rattle.act1_device.specs.declared.device.Device.{Device}
use Rattle.act1_device.specs.Order.{SiteIsBefore}
use Rattle.act1_device.specs.Sites.{IsSite}
use Rattle.act1_circuit.specs.Spots.{SpotIsBefore}
use Rattle.act1_fuses.specs.declared.fuses.FuseFile.{FuseFile}
use Rattle.act1_fuses.specs.declared.fuses.Port.{Port}
use Rattle.act1_fuses.specs.declared.fuses.StartAt.{StartAt}

-- the names of the inputs or of the outputs
abbrev pub port_names : List Port → List (List ℕ)
port_names ports = map (λ (port : Port). port.name) ports

-- the names of the latches
abbrev pub start_names : List StartAt → List (List ℕ)
start_names starts = map (λ (start : StartAt). start.name) starts

-- the clock's name is a name, and none of these
abbrev pub IsApart : Option (List ℕ) → List (List ℕ) → Type 0
IsApart clock names = IfSome clock (λ name. IsTrue (is_name name) × All (λ other. other ≢ name) names)

-- a start has an init of 0 to 3 and stands on the device
pub record IsStart (dev : Device) (start : StartAt) : Type 0 where
  pub row : start.spot.row < dev.rows
  pub column : start.spot.column < dev.columns
  pub init : start.init ≤ 3

-- the file keeps the rules for the device
pub record KeepsRules (dev : Device) (f : FuseFile) : Type 0 where
  -- it is a file of this device
  pub device : f.device ≡ dev.name
  -- names are names; inputs differ, outputs differ, and a latch differs from the other latches and from the inputs; none of them is the clock's
  pub names : All (λ name. IsTrue (is_name name)) (port_names f.ins ++ port_names f.outs ++ start_names f.starts)
  pub inputs : AllPairs (λ (a b : List ℕ). a ≢ b) (port_names f.ins ++ start_names f.starts)
  pub outputs : AllPairs (λ (a b : List ℕ). a ≢ b) (port_names f.outs)
  pub clock : IsApart f.clock (port_names f.ins ++ port_names f.outs ++ start_names f.starts)
  -- the device has each pad, and none is used twice
  pub pads : All (λ (port : Port). port.pad < length dev.pads) (f.ins ++ f.outs)
  pub once : AllPairs (λ (a b : Port). a.pad ≢ b.pad) (f.ins ++ f.outs)
  -- starts stand on the device and rise by their spots
  pub starts : All (IsStart dev) f.starts
  pub spots_rise : Rises SpotIsBefore (map (λ (start : StartAt). start.spot) f.starts)
  -- each antifuse is at a site of the device, and they rise in the order of sites
  pub sites : All (IsSite dev) f.sites
  pub sites_rise : Rises SiteIsBefore f.sites
