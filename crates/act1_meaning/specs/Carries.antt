-- What is enough for a circuit in pair form to mean a netlist: a statement on values, without waves.
use Rattle.std.specs.Prelude.{ℕ, ◌≡◌, Bool, false, List, Some, slice_get, All}
use Rattle.act1_circuit.specs.declared.circuit.Circuit.{Circuit}
use Rattle.act1_circuit.specs.declared.circuit.Start.{Start}
use Rattle.act1_circuit.specs.declared.circuit.Source.{Source}
use Rattle.act1_circuit.specs.Cycles.{bit, IsSteady}
use Rattle.act1_circuit.specs.Firing.{shown, source_value}
use Rattle.act1_circuit.specs.PairForm.{Edge, IsPair, start_module}
use Rattle.act1_meaning.specs.Meaning.{StartsLatch}
use Rattle.act1_blif.specs.declared.blif.Blif.{Blif}
use Rattle.act1_blif.specs.declared.blif.Latch.{Latch}
use Rattle.act1_blif.specs.Run.{Fits, Reading, signal}

-- the pair is that of the netlist's k-th latch: the start at it has the latch's name and init
pub record IsPairOfLatch (c : Circuit) (b : Blif) (edge : Edge) (takes : Source) (m s k : ℕ) (latch : Latch) : Type 0 where
  pub pair : IsPair c edge takes m s
  pub place : ℕ
  pub start : Start
  pub there : slice_get c.starts place ≡ Some start
  pub here : start.module ≡ start_module edge m s
  pub starts : StartsLatch b start k latch

-- bits of a circuit that carry a valuation v of a netlist at the latch outputs q and the inputs x: each module outside pairs has the bit that it gives, each slave has its latch's value, each pair takes its latch's next value, and the outputs are the netlist's. The masters may have any bits
pub record Carries (c : Circuit) (b : Blif) (reading : Reading) (q x v bits : List Bool) : Type 0 where
  pub steady : IsSteady c x bits
  pub latches : (edge : Edge) (takes : Source) (m s k : ℕ) (latch : Latch) → IsPairOfLatch c b edge takes m s k latch → bit bits s ≡ signal q k
  pub taken : (edge : Edge) (takes : Source) (m s k : ℕ) (latch : Latch) → IsPairOfLatch c b edge takes m s k latch → source_value false x bits takes ≡ signal (reading.next v) k
  pub outputs : shown c x bits ≡ reading.outputs v

-- each valuation of the netlist is carried by some bits
abbrev pub CarriesAll : Circuit → Blif → Reading → Type 0
CarriesAll c b reading = (q x v : List Bool) → Fits b q x v → (bits : List Bool) × Carries c b reading q x v bits

-- the inputs and the starts are those of a netlist, whose outputs may be read in another way
pub record PortsBy (c : Circuit) (b : Blif) : Type 0 where
  pub inputs : c.inputs ≡ b.inputs
  pub starts : All (λ (start : Start). (k : ℕ) × (latch : Latch) × StartsLatch b start k latch) c.starts
