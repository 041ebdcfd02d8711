-- What drives the wires of an array, and when no two sources are joined.
use Rattle.std.specs.Prelude.{List, None, Option, Some, length, ◌≡◌}
use Rattle.act1_array.specs.ClassSteps.{AreClasses, IsWhole}
use Rattle.act1_array.specs.Gives.{Apart, AreUsed, IsLeastPair}
use Rattle.act1_array.specs.OwnerSteps.{AreOwners}
use Rattle.act1_array.specs.declared.network.Network.{Network}
use Rattle.act1_array.specs.declared.owners.Pair.{Pair}
use Rattle.act1_circuit.specs.declared.circuit.Source.{Source}
use Rattle.act1_circuit.specs.declared.circuit.Spot.{Spot}
use Rattle.act1_device.specs.declared.device.Device.{Device}
use Rattle.act1_device.specs.declared.device.Wire.{Wire}
use Rattle.act1_fuses.specs.Array.{Drives, IsFed}
use Rattle.act1_fuses.specs.Wires.{links_of}
use Rattle.act1_fuses.specs.declared.fuses.FuseFile.{FuseFile}

-- the tables fit together
pub record IsReady (n : Network) : Type 0 where
  pub whole : IsWhole n.classes
  pub all : length n.owners.owners.items ≡ length n.classes.wires.keys

-- the spots, classes and owners are those of the array
pub record IsNetworkOf (dev : Device) (f : FuseFile) (n : Network) : Type 0 where
  pub ready : IsReady n
  pub used : AreUsed f.sites n.spots
  pub classes : AreClasses (links_of dev f.sites) n.classes.wires.keys n.classes.classes.items
  pub owners : AreOwners f n.spots n.classes 0 n.owners

-- a source that drives the wire, or none where none feeds it
abbrev pub Feeds : Device → FuseFile → List Spot → Wire → Option Source → Type 0
Feeds dev f spots w (Some source) = Drives dev f spots source w
Feeds dev f spots w None = ¬ IsFed dev f w

-- the least pair of different sources that are joined, or none where no two are
abbrev pub GivesPair : Device → FuseFile → List Spot → Option Pair → Type 0
GivesPair dev f spots None = Apart dev f
GivesPair dev f spots (Some pair) = IsLeastPair dev f spots pair.first pair.second × ¬ Apart dev f
