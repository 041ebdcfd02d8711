-- The canonical text of a netlist, in Berkeley's BLIF. Of the texts that say the same netlist it is the one with each line in its place, one space between words, and no comment, joined line or blank.
use Rattle.std.specs.Prelude.{ℕ, Bool, true, false, List, [], ◌∷◌, ◌++◌, map, Option, Some, None, codes}
use Rattle.std.specs.List.{flat_map}
use Rattle.std.specs.Fmt.{decimal}
use Rattle.act1_base.specs.Words.{text_of_lines}
use Rattle.act1_logic.specs.declared.cover.Mark.{Mark}
use Rattle.act1_logic.specs.declared.cover.Mark.TheVariants.{Zero, One, Dash}
use Rattle.act1_logic.specs.declared.cover.Row.{Row}
use Rattle.act1_blif.specs.declared.blif.Blif.{Blif}
use Rattle.act1_blif.specs.declared.blif.Latch.{Latch}
use Rattle.act1_blif.specs.declared.blif.Node.{Node}
use Rattle.act1_blif.specs.Names.{signal_name}

-- the byte of a mark: `0`, `1` or `-`
abbrev pub mark_byte : Mark → ℕ
mark_byte Zero = 48
mark_byte One = 49
mark_byte Dash = 45

-- the word of a cover's output
abbrev pub output_word : Bool → List ℕ
output_word true = codes "1"
output_word false = codes "0"

-- the words of a row: its marks, if it has any, and the output
abbrev pub row_words : Bool → List Mark → List (List ℕ)
row_words output [] = output_word output ∷ []
row_words output (mark ∷ marks) = map mark_byte (mark ∷ marks) ∷ output_word output ∷ []

-- a node's line `.names`, and those of its rows
abbrev pub node_lines : Blif → Node → List (List (List ℕ))
node_lines net node =
    (codes ".names" ∷ map (signal_name net) node.inputs ++ node.name ∷ [])
    ∷ map (λ (row : Row). row_words node.cover.output row.marks) node.cover.rows

-- the kind of edge and the clock, where the clock has a name
abbrev pub control_words : Option (List ℕ) → List (List ℕ)
control_words None = []
control_words (Some clock) = codes "re" ∷ clock ∷ []

-- a latch's line
abbrev pub latch_words : Blif → Latch → List (List ℕ)
latch_words net latch = codes ".latch" ∷ signal_name net latch.input ∷ latch.name ∷ control_words net.clock ++ decimal latch.init ∷ []

-- the clock's line, where the clock has a name
abbrev pub clock_lines : Option (List ℕ) → List (List (List ℕ))
clock_lines None = []
clock_lines (Some clock) = (codes ".clock" ∷ clock ∷ []) ∷ []

-- the words of each line
abbrev pub blif_lines : Blif → List (List (List ℕ))
blif_lines net =
    (codes ".model" ∷ net.model ∷ []) ∷ (codes ".inputs" ∷ net.inputs) ∷ (codes ".outputs" ∷ map (signal_name net) net.outputs) ∷ clock_lines net.clock
    ++ map (latch_words net) net.latches ++ flat_map (node_lines net) net.nodes ++ (codes ".end" ∷ []) ∷ []

-- the canonical text
abbrev pub blif_text : Blif → List ℕ
blif_text net = text_of_lines (blif_lines net)
