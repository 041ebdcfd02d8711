-- The laws of antifuse files and of the arrays that they describe.
use Rattle.std.specs.Prelude.{ℕ, ◌≡◌, ◌⊎◌, ◌↔◌, List}
use Rattle.act1_base.specs.FirstFault.{IsFirstFaultyLine}
use Rattle.act1_device.specs.declared.device.Device.{Device}
use Rattle.act1_circuit.specs.declared.circuit.Placed.{Placed}
use Rattle.act1_fuses.specs.declared.fault.FuseKind.{FuseKind}
use Rattle.act1_fuses.specs.declared.fuses.FuseFile.{FuseFile}
use Rattle.act1_fuses.specs.Array.{Sound, IsCircuitOf}
use Rattle.act1_fuses.specs.Reads.{IsTextOf, IsFuseText, IsFirstFault}
use Rattle.act1_fuses.specs.Rules.{KeepsRules}
use Rattle.act1_fuses.specs.Text.{fuse_text}

-- a sound array, whose file keeps the rules for its device, is of one circuit at most
abbrev pub OneCircuit : Type 0
OneCircuit = (dev : Device) (f : FuseFile) → KeepsRules dev f → Sound dev f → (p q : Placed) → IsCircuitOf p dev f → IsCircuitOf q dev f → p ≡ q

-- two files of a device that keep the rules and have one text are the same
abbrev pub OneFile : Type 0
OneFile = (dev : Device) (f g : FuseFile) → KeepsRules dev f → KeepsRules dev g → fuse_text f ≡ fuse_text g → f ≡ g

-- the text of a file that keeps the rules of a device has no first fault
abbrev pub NeverBoth : Type 0
NeverBoth = (dev : Device) (bytes : List ℕ) (f : FuseFile) (line : ℕ) (k : FuseKind) → IsTextOf dev bytes f → IsFirstFault dev bytes line k → ⊥

-- all bytes are the text of a file that keeps the rules of a device, or have a first fault
abbrev pub EachTextIsReadOrRefused : Type 0
EachTextIsReadOrRefused = (dev : Device) (bytes : List ℕ) → IsFuseText dev bytes ⊎ ((line : ℕ) × (k : FuseKind) × IsFirstFault dev bytes line k)

-- the line of the first fault is the first faulty line in the words of the texts: the first that lacks its line feed or with which the lines up to it begin no text of a file for the device, or the line after the last where the text is cut
abbrev pub FaultsAreFirstLines : Type 0
FaultsAreFirstLines = (dev : Device) (bytes : List ℕ) (line : ℕ) → ((k : FuseKind) × IsFirstFault dev bytes line k) ↔ IsFirstFaultyLine (IsFuseText dev) bytes line
