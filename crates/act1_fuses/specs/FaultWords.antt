-- How a refusal of an antifuse file is printed.
use Rattle.std.specs.Prelude.{ℕ, List, [], ◌∷◌, codes}
use Rattle.std.specs.Fmt.{decimal}
use Rattle.act1_fuses.specs.declared.fault.FuseFault.{FuseFault}
use Rattle.act1_fuses.specs.declared.fault.FuseKind.{FuseKind}
use Rattle.act1_fuses.specs.declared.fault.FuseKind.TheVariants as kind

-- the word of a kind
abbrev pub kind_word : FuseKind → List ℕ
kind_word kind.Line = codes "Line"
kind_word kind.Order = codes "Order"
kind_word kind.Site = codes "Site"
kind_word kind.Pad = codes "Pad"
kind_word kind.Device = codes "Device"
kind_word kind.End = codes "End"
kind_word kind.Name = codes "Name"
kind_word kind.Memory = codes "Memory"

-- the words of its line: `fuses line LINE KIND`
abbrev pub fuse_fault_words : FuseFault → List (List ℕ)
fuse_fault_words fault = codes "fuses" ∷ codes "line" ∷ decimal fault.line ∷ kind_word fault.kind ∷ []
