-- The command `extract`.
use Rattle.std.specs.Prelude.{ℕ, ◌≡◌, ◌≢◌, ◌⊎◌, ◌==◌, if◌then◌else◌, List, [], ◌∷◌, ◌++◌, length, codes, Some, Ok, Err}
use Rattle.act1_outside.specs.Outside.{Shelf}
use Rattle.act1_blif.specs.declared.blif.Blif.{Blif}
use Rattle.act1_blif.specs.Text.{blif_text}
use Rattle.act1_device.specs.declared.device.Device.{Device}
use Rattle.act1_devread.specs.Text.{DeviceText}
use Rattle.act1_extract.specs.declared.fault.ExtractFault.{ExtractFault}
use Rattle.act1_extract.specs.declared.fault.ExtractFault.TheVariants as fault
use Rattle.act1_extract.specs.FaultWords.{extract_fault_words}
use Rattle.act1_extract.specs.Gives.{ExtractGives, IsExtracted}
use Rattle.act1_fuses.specs.declared.fuses.FuseFile.{FuseFile}
use Rattle.act1_fuses.specs.Reads.{IsTextOf}
use Rattle.act1_fuses.specs.Rules.{KeepsRules}
use Rattle.act1_fuses.specs.Text.{fuse_text}
use Rattle.act1_frame.specs.declared.ending.Ending.{Ending}
use Rattle.act1_frame.specs.Endings.{refusal}
use Rattle.act1_frame.specs.Leaving.{NowHolds, PrintsAll}
use Rattle.act1_frame.specs.Reading.{Wanted, Holds}
use Rattle.act1_frame.specs.Stages.{Reads}
use Rattle.act1_frame.specs.World.{World}
use Rattle.act1_words.specs.declared.command.ExtractWords.{ExtractWords}
use Rattle.act1_top.specs.Files.{file_of, DeviceRefused, FusesRefused}
use Rattle.act1_top.specs.FlowCommand.{counted}

-- the files that it reads and writes, and those that it writes at a status
abbrev pub extract_reads : ExtractWords → List Wanted
extract_reads words = file_of words.device ∷ file_of words.fuses ∷ []

abbrev pub extract_writes : ExtractWords → List (List ℕ)
extract_writes words = words.blif ∷ []

abbrev pub extract_writes_at : ExtractWords → ℕ → List (List ℕ)
extract_writes_at words status = if status == 0 then words.blif ∷ [] else []

-- what is printed of a netlist that was extracted
abbrev pub extracted_text : ℕ → ℕ → List ℕ
extracted_text latches nodes = codes "extracted" ++ counted (codes "latches") latches ++ counted (codes "nodes") nodes ++ 10 ∷ []

-- the canonical text of the netlist is written under the name
abbrev pub extracted_ending : List ℕ → Blif → Ending
extracted_ending name net = record {
  status = 0;
  text = extracted_text (length net.latches) (length net.nodes);
  file = Some (record { name = name; bytes = blif_text net });
}

-- an array that isn't extracted
abbrev pub extract_refusal : ExtractFault → Ending
extract_refusal why = refusal 13 (extract_fault_words why)

-- what the extraction of an array ends with: its netlist, or the first cause that there is none
abbrev pub ExtractEnds : List ℕ → Device → FuseFile → Ending → Type 0
ExtractEnds name dev file e =
    ((net : Blif) × ExtractGives dev file (Ok net) × (e ≡ extracted_ending name net))
    ⊎ ((why : ExtractFault) × (why ≢ fault.Memory) × ExtractGives dev file (Err why) × (e ≡ extract_refusal why))

-- its endings, by the stage that they come from
abbrev pub ExtractMayEnd : ExtractWords → Shelf → Shelf → Ending → Type 0
ExtractMayEnd words before after e =
    Reads DeviceText DeviceRefused before after (file_of words.device) (λ dev.
    Reads (IsTextOf dev) (FusesRefused dev) before after (file_of words.fuses) (ExtractEnds words.blif dev)) e

-- An extraction that is done. The bytes under DEVICE are a device's text, and those under FUSES the one text of an antifuse file that keeps the rules for that device. Its array is sound, the circuit that device and antifuse file alone describe is in pair form and has no output with the name of an input or a latch but another source, and it means the netlist that it is extracted to, in every order of firing. BLIF now holds that netlist's canonical text, and what is printed are the numbers of its latches and nodes.
pub record ExtractIsDone (words : ExtractWords) (before after : World) : Type 0 where
  pub device_bytes : List ℕ
  pub fuses_bytes : List ℕ
  pub dev : Device
  pub file : FuseFile
  pub net : Blif
  pub device_held : Holds before.shelf words.device device_bytes
  pub device_text : DeviceText device_bytes dev
  pub fuses_held : Holds before.shelf words.fuses fuses_bytes
  pub fuses_text : fuses_bytes ≡ fuse_text file
  pub keeps : KeepsRules dev file
  pub extracted : IsExtracted dev file net
  pub written : NowHolds words.blif (blif_text net) before.shelf after.shelf
  pub printed : PrintsAll (extracted_text (length net.latches) (length net.nodes)) before.paper after.paper
