-- The files that several commands read.
use Rattle.std.specs.Prelude.{ℕ, ◌≢◌, List, [], ◌∷◌, codes}
use Rattle.std.specs.Fmt.{decimal}
use Rattle.act1_base.specs.FirstFault.{IsFirstFaultyLine}
use Rattle.act1_device.specs.declared.device.Device.{Device}
use Rattle.act1_devread.specs.declared.fault.DeviceFault.{DeviceFault}
use Rattle.act1_devread.specs.FaultWords.{device_fault_words}
use Rattle.act1_devread.specs.Text.{DeviceBad}
use Rattle.act1_bliftext.specs.declared.fault.BlifFault.{BlifFault}
use Rattle.act1_bliftext.specs.declared.fault.BlifKind.TheVariants as blif_kind
use Rattle.act1_bliftext.specs.Printing.{blif_fault_words}
use Rattle.act1_blifread.specs.Text.{BlifBad}
use Rattle.act1_fuses.specs.declared.fault.FuseFault.{FuseFault}
use Rattle.act1_fuses.specs.declared.fault.FuseKind.TheVariants as fuse_kind
use Rattle.act1_fuses.specs.FaultWords.{fuse_fault_words}
use Rattle.act1_fuses.specs.Reads.{IsFirstFault}
use Rattle.act1_job.specs.declared.job.Job.{Job}
use Rattle.act1_job.specs.Reads as job
use Rattle.act1_frame.specs.declared.ending.Ending.{Ending}
use Rattle.act1_frame.specs.Reading.{Wanted, wanted_of}
use Rattle.act1_frame.specs.Stages.{RefusedFor}

-- the most bytes that are read of a file: 16 MiB
abbrev pub most_bytes : ℕ
most_bytes = 16777216

abbrev pub file_of : List ℕ → Wanted
file_of name = wanted_of name most_bytes

-- the bytes are no device's text: they break this rule first
abbrev pub DeviceRefused : List ℕ → Ending → Type 0
DeviceRefused bytes = RefusedFor 5 device_fault_words (λ (fault : DeviceFault). DeviceBad bytes fault.kind fault.key)

-- the bytes are no netlist's text: this is their first fault
abbrev pub NetlistRefused : List ℕ → Ending → Type 0
NetlistRefused bytes = RefusedFor 4 blif_fault_words (λ (fault : BlifFault). (fault.kind ≢ blif_kind.Memory) × BlifBad bytes fault.line fault.kind)

-- the bytes are no antifuse file's text for the device: this line is the first that is faulty
abbrev pub FusesRefused : Device → List ℕ → Ending → Type 0
FusesRefused dev bytes = RefusedFor 6 fuse_fault_words (λ (fault : FuseFault). (fault.kind ≢ fuse_kind.Memory) × IsFirstFault dev bytes fault.line fault.kind)

-- the bytes are the text of a job
abbrev pub JobText : List ℕ → Job → Type 0
JobText bytes j = job.IsTextOf bytes j

abbrev pub job_fault_words : ℕ → List (List ℕ)
job_fault_words line = codes "job line" ∷ decimal line ∷ []

-- the bytes are no job's text: this line is the first that is faulty
abbrev pub JobRefused : List ℕ → Ending → Type 0
JobRefused bytes = RefusedFor 17 job_fault_words (λ (line : ℕ). IsFirstFaultyLine job.IsJobText bytes line)
