-- The line that is printed of a refused BLIF text.
use Rattle.std.specs.Prelude.{ℕ, List, [], ◌∷◌, codes}
use Rattle.std.specs.Fmt.{decimal}
use Rattle.act1_bliftext.specs.declared.fault.BlifFault.{BlifFault}
use Rattle.act1_bliftext.specs.declared.fault.BlifKind.{BlifKind}
use Rattle.act1_bliftext.specs.declared.fault.BlifKind.TheVariants.{Byte, Word, Shape, Row, Mixed, LatchKind, Init, After, Limit, Twice, Clocks, Undriven, ClockUsed, Loop, Memory}

-- the word of a kind of fault
abbrev pub blif_kind_word : BlifKind → List ℕ
blif_kind_word Byte = codes "Byte"
blif_kind_word Word = codes "Word"
blif_kind_word Shape = codes "Shape"
blif_kind_word Row = codes "Row"
blif_kind_word Mixed = codes "Mixed"
blif_kind_word LatchKind = codes "LatchKind"
blif_kind_word Init = codes "Init"
blif_kind_word After = codes "After"
blif_kind_word Limit = codes "Limit"
blif_kind_word Twice = codes "Twice"
blif_kind_word Clocks = codes "Clocks"
blif_kind_word Undriven = codes "Undriven"
blif_kind_word ClockUsed = codes "ClockUsed"
blif_kind_word Loop = codes "Loop"
blif_kind_word Memory = codes "Memory"

-- the words of the line: `blif line LINE KIND`
abbrev pub blif_fault_words : BlifFault → List (List ℕ)
blif_fault_words fault = codes "blif" ∷ codes "line" ∷ decimal fault.line ∷ blif_kind_word fault.kind ∷ []
