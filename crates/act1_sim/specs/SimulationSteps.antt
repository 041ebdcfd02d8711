-- What stops the stages of a simulation.
use Rattle.std.specs.Prelude.{ℕ, ◌≡◌, ◌≢◌, Bool, true, List, Option, Some, None, Err, slice_get}
use Rattle.std.specs.Str.Lines.{lines}
use Rattle.act1_base.specs.declared.texts.Stop.{Stop}
use Rattle.act1_base.specs.declared.texts.Stop.TheVariants as stop
use Rattle.act1_device.specs.declared.device.Device.{Device}
use Rattle.act1_circuit.specs.declared.circuit.Placed.{Placed}
use Rattle.act1_fuses.specs.declared.fuses.FuseFile.{FuseFile}
use Rattle.act1_array.specs.Gives.{Gives}
use Rattle.act1_array.specs.declared.fault.ArrayFault.TheVariants as array
use Rattle.act1_sim.specs.declared.fault.SimFault.{SimFault}
use Rattle.act1_sim.specs.declared.fault.SimFault.TheVariants.{Array, Unsettled, Memory}
use Rattle.act1_sim.specs.Cycles.{IsFirstUnrest}
use Rattle.act1_sim.specs.Vectors.{are_vectors, IsFirstNoVector}

-- what stopped a cycle: a module of this kind, or want of memory, which is free
abbrev pub OnUnrest : (ℕ → Type 0) → Stop ℕ → Type 0
OnUnrest Is (stop.Fault m) = Is m
OnUnrest Is stop.Memory = Unit {0}

-- the array has no circuit, or memory was short
abbrev pub ArrayStops : Device → FuseFile → SimFault → Type 0
ArrayStops dev f (Array fault) = (fault ≢ array.Memory) × Gives dev f (Err fault)
ArrayStops dev f Memory = Unit {0}
ArrayStops dev f e = ⊥

-- the cycles of these vectors from these bits stop at this one, or memory was short
abbrev pub UnsettledBy : Placed → List Bool → List (List Bool) → SimFault → Type 0
UnsettledBy p bits xs (Unsettled cycle spot) = (m : ℕ) × IsFirstUnrest p.circuit bits xs cycle m × (slice_get p.spots m ≡ Some spot)
UnsettledBy p bits xs Memory = Unit {0}
UnsettledBy p bits xs e = ⊥

-- the number of the first line that is no vector, where there is one
abbrev pub FindsNoVector : ℕ → List ℕ → Option ℕ → Type 0
FindsNoVector width bytes None = are_vectors width (lines bytes) ≡ true
FindsNoVector width bytes (Some number) = IsFirstNoVector width bytes number
