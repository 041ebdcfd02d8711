-- The laws of mappings.
use Rattle.std.specs.Prelude.{ℕ, ◌<◌, ◌≤◌, Bool, List, length}
use Rattle.act1_blif.specs.declared.blif.Blif.{Blif}
use Rattle.act1_circuit.specs.declared.circuit.Circuit.{Circuit}
use Rattle.act1_circuit.specs.PairForm.{IsPairForm}
use Rattle.act1_circuit.specs.Range.{InRange}
use Rattle.act1_meaning.specs.Meaning.{Means}
use Rattle.act1_net.specs.declared.net.Net.{Net}
use Rattle.act1_net.specs.Net.{IsNetOf}
use Rattle.act1_map.specs.Least.{IsLeast}
use Rattle.act1_map.specs.Mapped.{Tables, IsMapped}
use Rattle.act1_map.specs.Meaning.{IsNet, PortsOfNet, MeansNet}
use Rattle.act1_map.specs.Own.{HasOwnSources}
use Rattle.act1_map.specs.Read.{IsFull, IsSource}

-- a circuit that is mapped from a net is in pair form and means the net, in every order of firing
abbrev pub MappedMeans : Type 0
MappedMeans = (n : Net) (c : Circuit) (t : Tables) → IsNet n → InRange c → PortsOfNet c n → IsMapped n c t → IsPairForm c × MeansNet c n

-- where the tiles are those of nodes that are used, each module is the source of some pin or output
abbrev pub MappedIsRead : Type 0
MappedIsRead = (n : Net) (c : Circuit) (t : Tables) → IsNet n → IsMapped n c t → IsFull n t → (m : ℕ) → m < length c.modules → ∥ IsSource c m ∥₁

-- and the circuit has at most the least count of modules
abbrev pub MappedIsFew : Type 0
MappedIsFew = (n : Net) (c : Circuit) (t : Tables) → IsNet n → IsMapped n c t → IsFull n t → (k : ℕ) → IsLeast n.blif k → length c.modules ≤ k

-- each latch has a start, and outputs that are inputs or latches have these as their sources
abbrev pub MappedHasOwnSources : Type 0
MappedHasOwnSources = (n : Net) (c : Circuit) (t : Tables) → IsMapped n c t → HasOwnSources c n

-- a circuit that means a net means each netlist that the net does the same as
abbrev pub NetMeansNetlist : Type 0
NetMeansNetlist = (b : Blif) (kept : List Bool) (n : Net) (c : Circuit) → IsNetOf b kept n → MeansNet c n → Means c b

-- such a net has its terms
abbrev pub NetHasTerms : Type 0
NetHasTerms = (b : Blif) (kept : List Bool) (n : Net) → IsNetOf b kept n → IsNet n
