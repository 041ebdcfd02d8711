-- What a simulation of an array shows, and how it is refused.
use Rattle.std.specs.Prelude.{ℕ, ◌≡◌, ◌≢◌, Bool, List, length, Ok, Err, Some, slice_get}
use Rattle.act1_device.specs.declared.device.Device.{Device}
use Rattle.act1_circuit.specs.declared.circuit.Placed.{Placed}
use Rattle.act1_fuses.specs.declared.fuses.FuseFile.{FuseFile}
use Rattle.act1_array.specs.Gives.{Gives}
use Rattle.act1_array.specs.declared.fault.ArrayFault.TheVariants as array
use Rattle.act1_sim.specs.declared.fault.SimFault.{SimFault}
use Rattle.act1_sim.specs.declared.fault.SimFault.TheVariants.{Array, Vector, Unsettled, Memory}
use Rattle.act1_sim.specs.Cycles.{outputs, Rests, BeginsWith, IsFirstUnrest}
use Rattle.act1_sim.specs.Vectors.{AreVectorsOf, IsFirstNoVector, output_text}

-- the array is sound, p is its circuit, the text has these vectors, and the modules begin with these bits
pub record IsSetUp (dev : Device) (f : FuseFile) (bytes : List ℕ) (fill : Bool) (p : Placed) (xs : List (List Bool)) (bits : List Bool) : Type 0 where
  pub array : Gives dev f (Ok p)
  pub vectors : AreVectorsOf (length p.circuit.inputs) bytes xs
  pub begins : BeginsWith p.circuit fill bits

-- the text has the outputs of each cycle, and the circuit rests after each wave
pub record Simulates (dev : Device) (f : FuseFile) (bytes : List ℕ) (fill : Bool) (text : List ℕ) : Type 0 where
  pub placed : Placed
  pub vectors : List (List Bool)
  pub bits : List Bool
  pub set_up : IsSetUp dev f bytes fill placed vectors bits
  pub rests : Rests placed.circuit bits vectors
  pub text_is : text ≡ output_text (outputs placed.circuit bits vectors)

-- the array is sound, and this line is the first that is no vector
pub record RefusesVector (dev : Device) (f : FuseFile) (bytes : List ℕ) (line : ℕ) : Type 0 where
  pub placed : Placed
  pub array : Gives dev f (Ok placed)
  pub first : IsFirstNoVector (length placed.circuit.inputs) bytes line

-- this module is the least that still changes its bit after the first wave that leaves the circuit unsettled, which is one of this cycle
pub record DoesNotSettle (dev : Device) (f : FuseFile) (bytes : List ℕ) (fill : Bool) (cycle : ℕ) (m : ℕ) (p : Placed) : Type 0 where
  pub vectors : List (List Bool)
  pub bits : List Bool
  pub set_up : IsSetUp dev f bytes fill p vectors bits
  pub first : IsFirstUnrest p.circuit bits vectors cycle m

-- why there is no simulation, by the first cause in this order; want of memory is free
abbrev pub RefusesToSimulate : Device → FuseFile → List ℕ → Bool → SimFault → Type 0
RefusesToSimulate dev f bytes fill (Array fault) = (fault ≢ array.Memory) × Gives dev f (Err fault)
RefusesToSimulate dev f bytes fill (Vector line) = RefusesVector dev f bytes line
RefusesToSimulate dev f bytes fill (Unsettled cycle spot) = (p : Placed) × (m : ℕ) × DoesNotSettle dev f bytes fill cycle m p × (slice_get p.spots m ≡ Some spot)
RefusesToSimulate dev f bytes fill Memory = Unit {0}
