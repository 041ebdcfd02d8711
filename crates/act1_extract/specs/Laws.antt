-- The laws of extraction: an array is extracted or refused, and which arrays are extracted.
use Rattle.std.specs.Prelude.{ℕ, ◌≡◌, ◌≢◌, ◌⊎◌, Result, Ok, Err}
use Rattle.act1_blif.specs.declared.blif.Blif.{Blif}
use Rattle.act1_circuit.specs.declared.circuit.Placed.{Placed}
use Rattle.act1_circuit.specs.PairForm.{IsPairForm}
use Rattle.act1_device.specs.declared.device.Device.{Device}
use Rattle.act1_fuses.specs.declared.fuses.FuseFile.{FuseFile}
use Rattle.act1_fuses.specs.Rules.{KeepsRules}
use Rattle.act1_meaning.specs.ArrayNames.{IsClash}
use Rattle.act1_extract.specs.declared.fault.ExtractFault.{ExtractFault}
use Rattle.act1_extract.specs.declared.fault.ExtractFault.TheVariants.{Memory}
use Rattle.act1_extract.specs.Gives.{ExtractGives, IsCircuit}

-- no array is both extracted and refused for a cause
abbrev pub NeverBoth : Type 0
NeverBoth = (dev : Device) (f : FuseFile) → KeepsRules dev f → (b : Blif) (why : ExtractFault) → why ≢ Memory → ExtractGives dev f (Ok b) → ExtractGives dev f (Err why) → ⊥

-- the array is sound, its circuit is in pair form, and no output has the name of an input or a latch but another source
pub record IsFormed (dev : Device) (f : FuseFile) : Type 0 where
  pub placed : Placed
  pub circuit : IsCircuit dev f placed
  pub form : IsPairForm placed.circuit
  pub clear : (i : ℕ) → IsClash placed.circuit i → ⊥

-- a netlist, or want of memory
abbrev pub IsNetOrMemory : Result Blif ExtractFault → Type 0
IsNetOrMemory answer = ((b : Blif) × (answer ≡ Ok b)) ⊎ (answer ≡ Err Memory)

-- such an array is extracted, unless no memory is found
abbrev pub FormedAreExtracted : Type 0
FormedAreExtracted = (dev : Device) (f : FuseFile) → KeepsRules dev f → IsFormed dev f → (answer : Result Blif ExtractFault) → ExtractGives dev f answer → IsNetOrMemory answer
