-- The laws of meaning.
use Rattle.std.specs.Prelude.{◌≡◌, ◌≢◌, AllPairs, Bool, List, length}
use Rattle.act1_circuit.specs.declared.circuit.Circuit.{Circuit}
use Rattle.act1_circuit.specs.declared.circuit.Start.{Start}
use Rattle.act1_circuit.specs.Firing.{run, IsWave, RestsAlong, Waves}
use Rattle.act1_circuit.specs.PairForm.{IsPairForm}
use Rattle.act1_circuit.specs.Range.{InRange}
use Rattle.act1_blif.specs.declared.blif.Blif.{Blif}
use Rattle.act1_blif.specs.Run.{Reading, ShowsBy, own_reading}
use Rattle.act1_meaning.specs.Carries.{CarriesAll, PortsBy}
use Rattle.act1_meaning.specs.Constant.{IsConstantCircuit}
use Rattle.act1_meaning.specs.Extracted.{IsArrayNet}
use Rattle.act1_meaning.specs.Meaning.{AgreesWithState, IsCase, Means, MeansInOrder, Ports}

-- a circuit without modules whose outputs are the constants of a netlist means that netlist
abbrev pub ConstantsMean : Type 0
ConstantsMean = (c : Circuit) (b : Blif) → IsConstantCircuit c b → Means c b

-- what a circuit means in every order of firing it means in site order
abbrev pub EveryOrderIsEnough : Type 0
EveryOrderIsEnough = (c : Circuit) (b : Blif) → Means c b → MeansInOrder c b

-- a circuit in pair form that carries each valuation of a netlist means that netlist, in every order of firing
abbrev pub CarryingMeans : Type 0
CarryingMeans = (c : Circuit) (b : Blif) → InRange c → IsPairForm c → Ports c b → CarriesAll c b (own_reading b) → Means c b

-- and it shows what the netlist shows where that is read in another way, and comes to rest after each wave
abbrev pub CarryingShows : Type 0
CarryingShows = (c : Circuit) (b : Blif) (reading : Reading) → InRange c → IsPairForm c → PortsBy c b → CarriesAll c b reading
    → ((v : List Bool) → length (reading.next v) ≡ length b.latches)
    → (q bits : List Bool) (xs : List (List Bool)) (ws : List Waves) → IsCase IsWave c b q bits xs ws → ShowsBy b reading q xs (run c bits xs ws) × RestsAlong c bits xs ws

-- a circuit in pair form, whose starts have different names and modules, means the netlist that it is extracted to
abbrev pub ArrayNetMeans : Type 0
ArrayNetMeans = (c : Circuit) (b : Blif) → InRange c → IsPairForm c → IsArrayNet c b → AllPairs (λ (s t : Start). (s.name ≢ t.name) × (s.module ≢ t.module)) c.starts → Means c b

-- where circuit and netlist have the same ports, each state of the netlist is that of some module bits: so the meaning speaks of every state in which the netlist may begin
abbrev pub EachStateIsMet : Type 0
EachStateIsMet = (c : Circuit) (b : Blif) → InRange c → Ports c b → (q : List Bool) → length q ≡ length b.latches
    → (bits : List Bool) × (length bits ≡ length c.modules) × AgreesWithState c b q bits
