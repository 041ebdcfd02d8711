-- What the reader of antifuse files answers.
use Rattle.std.specs.Prelude.{ℕ, ◌≡◌, ◌≢◌, List, Result, Ok, Err}
use Rattle.act1_device.specs.declared.device.Device.{Device}
use Rattle.act1_fuses.specs.declared.fault.FuseFault.{FuseFault}
use Rattle.act1_fuses.specs.declared.fault.FuseKind.{FuseKind}
use Rattle.act1_fuses.specs.declared.fault.FuseKind.TheVariants.{Memory}
use Rattle.act1_fuses.specs.declared.fuses.FuseFile.{FuseFile}
use Rattle.act1_fuses.specs.Reading.{fuse_reading}
use Rattle.act1_fuses.specs.Rules.{KeepsRules}
use Rattle.act1_fuses.specs.Text.{fuse_text}

-- the bytes are the text of this file, which keeps the rules for the device
abbrev pub IsTextOf : Device → List ℕ → FuseFile → Type 0
IsTextOf dev bytes f = KeepsRules dev f × (bytes ≡ fuse_text f)

-- the bytes are the text of some file that keeps the rules for the device
abbrev pub IsFuseText : Device → List ℕ → Type 0
IsFuseText dev bytes = (f : FuseFile) × IsTextOf dev bytes f

-- this is the first faulty line, with the least kind of what is wrong with it
abbrev pub IsFirstFault : Device → List ℕ → ℕ → FuseKind → Type 0
IsFirstFault dev bytes line k = fuse_reading dev bytes ≡ Err (record { line = line; kind = k })

-- the file whose text it is, or the first fault, where want of memory alone is free
abbrev pub FuseReads : Device → List ℕ → Result FuseFile FuseFault → Type 0
FuseReads dev bytes (Ok f) = IsTextOf dev bytes f
FuseReads dev bytes (Err fault) = fault.kind ≢ Memory → IsFirstFault dev bytes fault.line fault.kind

-- this file is read, unless memory is short
abbrev pub IsReadAs : FuseFile → Result FuseFile FuseFault → Type 0
IsReadAs f (Ok g) = g ≡ f
IsReadAs f (Err fault) = fault.kind ≡ Memory

-- the text of a file that keeps the rules is read as that file
abbrev pub ReadsAgain : Device → List ℕ → Result FuseFile FuseFault → Type 0
ReadsAgain dev bytes result = (f : FuseFile) → KeepsRules dev f → bytes ≡ fuse_text f → IsReadAs f result
