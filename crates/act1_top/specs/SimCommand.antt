-- The command `sim`.
use Rattle.std.specs.Prelude.{ℕ, ◌≡◌, ◌≢◌, ◌⊎◌, Bool, List, [], ◌∷◌}
use Rattle.act1_outside.specs.Outside.{Shelf}
use Rattle.act1_device.specs.declared.device.Device.{Device}
use Rattle.act1_devread.specs.Text.{DeviceText}
use Rattle.act1_fuses.specs.declared.fuses.FuseFile.{FuseFile}
use Rattle.act1_fuses.specs.Reads.{IsTextOf}
use Rattle.act1_fuses.specs.Rules.{KeepsRules}
use Rattle.act1_fuses.specs.Text.{fuse_text}
use Rattle.act1_sim.specs.declared.fault.SimFault.{SimFault}
use Rattle.act1_sim.specs.declared.fault.SimFault.TheVariants as fault
use Rattle.act1_sim.specs.FaultWords.{sim_fault_words}
use Rattle.act1_sim.specs.Simulation.{Simulates, RefusesToSimulate}
use Rattle.act1_frame.specs.declared.ending.Ending.{Ending}
use Rattle.act1_frame.specs.Endings.{printed, refusal}
use Rattle.act1_frame.specs.Leaving.{PrintsAll}
use Rattle.act1_frame.specs.Reading.{Wanted, Holds, AreBytes}
use Rattle.act1_frame.specs.Stages.{Reads, NeverRefused}
use Rattle.act1_frame.specs.World.{World}
use Rattle.act1_words.specs.declared.command.SimWords.{SimWords}
use Rattle.act1_top.specs.Files.{file_of, DeviceRefused, FusesRefused}

-- the files that it reads; it writes none
abbrev pub sim_reads : SimWords → List Wanted
sim_reads words = file_of words.device ∷ file_of words.fuses ∷ file_of words.vectors ∷ []

-- the status of a refusal: of the array, of a vector, or of a module that doesn't come to rest
abbrev pub sim_status : SimFault → ℕ
sim_status (fault.Array why) = 13
sim_status (fault.Vector line) = 7
sim_status (fault.Unsettled cycle spot) = 14
sim_status fault.Memory = 15

abbrev pub sim_refusal : SimFault → Ending
sim_refusal why = refusal (sim_status why) (sim_fault_words why)

-- what the simulation of an array over a text of vectors ends with, where modules without a declared start begin with the fill
abbrev pub SimEnds : Bool → Device → FuseFile → List ℕ → Ending → Type 0
SimEnds fill dev file vectors e =
    ((text : List ℕ) × Simulates dev file vectors fill text × (e ≡ printed text))
    ⊎ ((why : SimFault) × (why ≢ fault.Memory) × RefusesToSimulate dev file vectors fill why × (e ≡ sim_refusal why))

-- its endings, by the stage that they come from
abbrev pub SimMayEnd : SimWords → Shelf → Shelf → Ending → Type 0
SimMayEnd words before after e =
    Reads DeviceText DeviceRefused before after (file_of words.device) (λ dev.
    Reads (IsTextOf dev) (FusesRefused dev) before after (file_of words.fuses) (λ file.
    Reads AreBytes NeverRefused before after (file_of words.vectors) (λ bytes.
    SimEnds words.fill dev file bytes))) e

-- A simulation that is done. The bytes under DEVICE are a device's text, and those under FUSES the one text of an antifuse file that keeps the rules for that device. What is printed are the outputs, a line a cycle, of the circuit that device and antifuse file alone describe, over the vectors that VECTORS holds, where its modules fire in site order and begin with their declared starts and else with the fill that the words give; and the circuit comes to rest after each wave.
pub record SimIsDone (words : SimWords) (before after : World) : Type 0 where
  pub device_bytes : List ℕ
  pub fuses_bytes : List ℕ
  pub vectors_bytes : List ℕ
  pub dev : Device
  pub file : FuseFile
  pub text : List ℕ
  pub device_held : Holds before.shelf words.device device_bytes
  pub device_text : DeviceText device_bytes dev
  pub fuses_held : Holds before.shelf words.fuses fuses_bytes
  pub fuses_text : fuses_bytes ≡ fuse_text file
  pub keeps : KeepsRules dev file
  pub vectors_held : Holds before.shelf words.vectors vectors_bytes
  pub simulates : Simulates dev file vectors_bytes words.fill text
  pub printed : PrintsAll text before.paper after.paper
