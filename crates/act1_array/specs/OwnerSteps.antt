-- The sources of each class of wires, and the pairs of sources that are in one class.
use Rattle.std.specs.Prelude.{ℕ, List, None, Option, Some, slice_get, ◌<◌, ◌≡◌, ◌≤◌}
use Rattle.act1_array.specs.ClassSteps.{HasClass}
use Rattle.act1_array.specs.Gives.{PairIsUpTo, source_place}
use Rattle.act1_array.specs.declared.classes.Classes.{Classes}
use Rattle.act1_array.specs.declared.owners.Owners.{Owners}
use Rattle.act1_array.specs.declared.owners.Pair.{Pair}
use Rattle.act1_circuit.specs.declared.circuit.Source.{Source}
use Rattle.act1_circuit.specs.declared.circuit.Spot.{Spot}
use Rattle.act1_device.specs.declared.device.Wire.{Wire}
use Rattle.act1_fuses.specs.Array.{IsWireOf}
use Rattle.act1_fuses.specs.declared.fuses.FuseFile.{FuseFile}

-- the source's wire is in the class
abbrev pub IsIn : FuseFile → List Spot → Classes → ℕ → Source → Type 0
IsIn f spots c class source = (w : Wire) × IsWireOf f spots source w × HasClass c.wires.keys c.classes.items w class

-- the two sources are in one class, the first before the second
pub record Meet (f : FuseFile) (spots : List Spot) (c : Classes) (s t : Source) : Type 0 where
  pub class : ℕ
  pub first : IsIn f spots c class s
  pub second : IsIn f spots c class t
  pub order : source_place f s < source_place f t

-- the least pair of sources in one class, of those whose first source stands there or later
abbrev pub IsLeastFrom : FuseFile → List Spot → Classes → ℕ → Option Pair → Type 0
IsLeastFrom f spots c from None = (s t : Source) → from ≤ source_place f s → ¬ Meet f spots c s t
IsLeastFrom f spots c from (Some p) = Meet f spots c p.first p.second × ((s t : Source) → from ≤ source_place f s → Meet f spots c s t → PairIsUpTo f p.first p.second s t)

-- the least source of each class and the least pair, of the sources that stand there or later
pub record AreOwners (f : FuseFile) (spots : List Spot) (c : Classes) (from : ℕ) (o : Owners) : Type 0 where
  pub owns : (class : ℕ) (s : Source) → slice_get o.owners.items class ≡ Some (Some s) → IsIn f spots c class s × (from ≤ source_place f s)
  pub least : (class : ℕ) (s : Source) → IsIn f spots c class s → from ≤ source_place f s → (first : Source) × (slice_get o.owners.items class ≡ Some (Some first)) × (source_place f first ≤ source_place f s)
  pub pair : IsLeastFrom f spots c from o.pair

-- the pair when a source is looked at whose class has this least source
abbrev pub pair_with : Source → Option Source → Option Pair → Option Pair
pair_with s None pair = pair
pair_with s (Some t) pair = Some (record { first = s; second = t })

-- the wire and the source are in one class
abbrev pub Shares : FuseFile → List Spot → Classes → Source → Wire → Type 0
Shares f spots c s w = (class : ℕ) × IsIn f spots c class s × HasClass c.wires.keys c.classes.items w class

-- a source that is in the class of the wire, or none where none is
abbrev pub GivesSource : FuseFile → List Spot → Classes → Wire → Option Source → Type 0
GivesSource f spots c w (Some s) = Shares f spots c s w
GivesSource f spots c w None = (s : Source) → ¬ Shares f spots c s w
