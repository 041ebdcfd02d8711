-- The parts of a simulation make the whole.
use Rattle.std.proofs.Common.{ℕ, ◌≡◌, Bool, List, length, Result, Ok, Err, IfOk, IfErr, Vec, Global}
use Rattle.act1_device.specs.declared.device.Device.{Device}
use Rattle.act1_circuit.specs.declared.circuit.Placed.{Placed}
use Rattle.act1_fuses.specs.declared.fuses.FuseFile.{FuseFile}
use Rattle.act1_array.specs.Gives.{Gives}
use Rattle.act1_sim.specs.declared.fault.SimFault.{SimFault}
use Rattle.act1_sim.specs.declared.fault.SimFault.TheVariants.{Array, Vector, Unsettled, Memory}
use Rattle.act1_sim.specs.Cycles.{outputs, Rests, BeginsWith}
use Rattle.act1_sim.specs.Vectors.{AreVectorsOf, IsFirstNoVector, output_text}
use Rattle.act1_sim.specs.Simulation.{IsSetUp, Simulates, RefusesToSimulate}
use Rattle.act1_sim.specs.SimulationSteps.{ArrayStops, UnsettledBy}

-- what refuses the array refuses the simulation
pub array_refused : (dev : Device) (f : FuseFile) (bytes : List ℕ) (fill : Bool) (e : SimFault) → ArrayStops dev f e → RefusesToSimulate dev f bytes fill e
array_refused dev f bytes fill (Array fault) h = h
array_refused dev f bytes fill Memory h = tt
array_refused dev f bytes fill e h = elim h [ ]

module _ (dev : Device) (f : FuseFile) (bytes : List ℕ) (fill : Bool) (p : Placed) (given : Gives dev f (Ok p)) where
  pub vector_refused : (line : ℕ) → IsFirstNoVector (length p.circuit.inputs) bytes line → RefusesToSimulate dev f bytes fill (Vector line)
  vector_refused line h = record { placed = p; array = given; first = h }

  module _ (xs : List (List Bool)) (bits : List Bool) (vectors : AreVectorsOf (length p.circuit.inputs) bytes xs) (begins : BeginsWith p.circuit fill bits) where
    set_up : IsSetUp dev f bytes fill p xs bits
    set_up = record { array = given; vectors = vectors; begins = begins }

    pub simulated : (r : Result (Vec ℕ Global) SimFault) → IfOk r (λ text. Rests p.circuit bits xs) → IfOk r (λ text. text.items ≡ output_text (outputs p.circuit bits xs)) → IfOk r (λ text. Simulates dev f bytes fill text.items)
    simulated (Ok text) rests is = record { placed = p; vectors = xs; bits = bits; set_up = set_up; rests = rests; text_is = is }
    simulated (Err e) rests is = tt

    unsettled : (e : SimFault) → UnsettledBy p bits xs e → RefusesToSimulate dev f bytes fill e
    unsettled (Unsettled cycle spot) (m, first, at) = (p, m, record { vectors = xs; bits = bits; set_up = set_up; first = first }, at)
    unsettled Memory h = tt
    unsettled e h = elim h [ ]

    pub not_settled : (r : Result (Vec ℕ Global) SimFault) → IfErr r (UnsettledBy p bits xs) → IfErr r (RefusesToSimulate dev f bytes fill)
    not_settled (Ok text) h = tt
    not_settled (Err e) h = unsettled e h
