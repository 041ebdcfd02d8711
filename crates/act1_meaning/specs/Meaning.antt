-- What it says that a circuit means a netlist.
use Rattle.std.specs.Prelude.{ℕ, ◌≡◌, ◌≢◌, Bool, List, length, map, slice_get, Some, All, AllPairs}
use Rattle.act1_circuit.specs.declared.circuit.Circuit.{Circuit}
use Rattle.act1_circuit.specs.declared.circuit.Output.{Output}
use Rattle.act1_circuit.specs.declared.circuit.Start.{Start}
use Rattle.act1_circuit.specs.Firing.{IsWave, IsSiteWave, Waves, run, RestsAlong}
use Rattle.act1_circuit.specs.Range.{InRange}
use Rattle.act1_blif.specs.declared.blif.Blif.{Blif}
use Rattle.act1_blif.specs.declared.blif.Latch.{Latch}
use Rattle.act1_blif.specs.Run as net
use Rattle.act1_blif.specs.Names.{signal_name}

-- the k-th latch has the name and the init of this start
pub record StartsLatch (b : Blif) (start : Start) (k : ℕ) (latch : Latch) : Type 0 where
  pub is : slice_get b.latches k ≡ Some latch
  pub name : latch.name ≡ start.name
  pub init : latch.init ≡ start.init

-- inputs, outputs and clock have the same names in the same order, and each start is that of a latch of its own, at a module that no other start has
pub record Ports (c : Circuit) (b : Blif) : Type 0 where
  pub clock : c.clock ≡ b.clock
  pub inputs : c.inputs ≡ b.inputs
  pub outputs : map (λ (o : Output). o.name) c.outputs ≡ map (signal_name b) b.outputs
  pub starts : All (λ (start : Start). (k : ℕ) × (latch : Latch) × StartsLatch b start k latch) c.starts
  pub apart : AllPairs (λ (s t : Start). (s.name ≢ t.name) × (s.module ≢ t.module)) c.starts

-- each module with a start has the bit of its latch in the state; the others have any bits
abbrev pub AgreesWithState : Circuit → Blif → List Bool → List Bool → Type 0
AgreesWithState c b q bits =
    (start : Start) (j k : ℕ) (latch : Latch) → slice_get c.starts j ≡ Some start → StartsLatch b start k latch → slice_get bits start.module ≡ slice_get q k

-- one bit per input in each vector
abbrev pub AreVectors : ℕ → List (List Bool) → Type 0
AreVectors width xs = All (λ x. length x ≡ width) xs

-- two waves per vector
pub record AreWaves (IsOne : ℕ → List ℕ → Type 0) (n : ℕ) (xs : List (List Bool)) (ws : List Waves) : Type 0 where
  pub count : length ws ≡ length xs
  pub each : All (λ (w : Waves). IsOne n w.low × IsOne n w.high) ws

-- a run that the meaning speaks of: any state that agrees with the declared latch values, any bits elsewhere, any vectors, any waves of the kind
pub record IsCase (IsOne : ℕ → List ℕ → Type 0) (c : Circuit) (b : Blif) (q bits : List Bool) (xs : List (List Bool)) (ws : List Waves) : Type 0 where
  pub state : net.MayBegin b q
  pub one_each : length bits ≡ length c.modules
  pub agrees : AgreesWithState c b q bits
  pub vectors : AreVectors (length c.inputs) xs
  pub waves : AreWaves IsOne (length c.modules) xs ws

-- the circuit has each of its sources, and the modules of its starts; in each run with waves of the kind it shows what the netlist shows, and comes to rest after each wave
pub record MeansOver (IsOne : ℕ → List ℕ → Type 0) (c : Circuit) (b : Blif) : Type 0 where
  pub in_range : InRange c
  pub ports : Ports c b
  pub shows : (q bits : List Bool) (xs : List (List Bool)) (ws : List Waves) → IsCase IsOne c b q bits xs ws → net.Shows b q xs (run c bits xs ws)
  pub rests : (q bits : List Bool) (xs : List (List Bool)) (ws : List Waves) → IsCase IsOne c b q bits xs ws → RestsAlong c bits xs ws

-- the circuit means the netlist: whatever the order in which its modules fire
abbrev pub Means : Circuit → Blif → Type 0
Means = MeansOver IsWave

-- the same where the modules fire in site order
abbrev pub MeansInOrder : Circuit → Blif → Type 0
MeansInOrder = MeansOver IsSiteWave
