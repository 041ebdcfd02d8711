-- How a refusal of a device file is printed.
use Rattle.std.specs.Prelude.{ℕ, List, [], ◌∷◌, codes, slice_index_or}
use Rattle.act1_devread.specs.declared.fault.DeviceFault.{DeviceFault}
use Rattle.act1_devread.specs.declared.fault.DeviceKind.{DeviceKind}
use Rattle.act1_devread.specs.declared.fault.DeviceKind.TheVariants as kind

-- the word of a kind
abbrev pub kind_word : DeviceKind → List ℕ
kind_word kind.Text = codes "Text"
kind_word kind.Missing = codes "Missing"
kind_word kind.Kind = codes "Kind"
kind_word kind.Range = codes "Range"
kind_word kind.Order = codes "Order"
kind_word kind.Pads = codes "Pads"
kind_word kind.Unknown = codes "Unknown"
kind_word kind.Memory = codes "Memory"

-- the word of a key, by its number; `-` is for a refusal of the whole file
abbrev pub key_word : ℕ → List ℕ
key_word key =
    slice_index_or (codes "-" ∷ codes "format" ∷ codes "name" ∷ codes "rows" ∷ codes "columns" ∷ codes "pins" ∷ codes "below" ∷ codes "above" ∷ codes "tracks" ∷ codes "longs" ∷ codes "pads" ∷ []) key (codes "-")

-- the words of the line: the kind and the key
abbrev pub device_fault_words : DeviceFault → List (List ℕ)
device_fault_words fault = codes "device" ∷ kind_word fault.kind ∷ key_word fault.key ∷ []
