-- What is left of a node where its inputs are terms.
use Rattle.std.specs.Prelude.{ℕ, ◌+◌, ◌==◌, Bool, true, false, not, ◌||◌, ◌&&◌, if◌then◌else◌, List, [], ◌∷◌, ◌++◌, length, map, Option, Some, None, slice_get, slice_index_or}
use Rattle.std.specs.List.{list_any, filter_map, flat_map, cons_option}
use Rattle.std.specs.Option.{option_map}
use Rattle.act1_logic.specs.declared.cover.Mark.{Mark}
use Rattle.act1_logic.specs.declared.cover.Mark.TheVariants as mark
use Rattle.act1_logic.specs.declared.cover.Row.{Row}
use Rattle.act1_logic.specs.Rows.{agrees}
use Rattle.act1_blif.specs.declared.blif.Node.{Node}
use Rattle.act1_blif.specs.Run.{signals}
use Rattle.act1_net.specs.declared.gate.Gate.{Gate}
use Rattle.act1_net.specs.declared.net.NetTerm.{NetTerm}
use Rattle.act1_net.specs.declared.net.NetTerm.TheVariants as term
use Rattle.act1_net.specs.Net.{has_literal, row_of}

-- the term of a signal
abbrev pub term_of : List NetTerm → ℕ → NetTerm
term_of terms s = slice_index_or terms s term.Zero

-- the signal of a term, if it has one
abbrev pub signal_of : NetTerm → Option ℕ
signal_of term.Zero = None
signal_of term.One = None
signal_of (term.Signal s) = Some s

-- the mark asks of a constant what it isn't
abbrev pub is_against : NetTerm → Mark → Bool
is_against term.Zero mark.One = true
is_against term.One mark.Zero = true
is_against t m = false

-- some mark does
abbrev pub has_against : List NetTerm → List Mark → Bool
has_against [] ms = false
has_against (t ∷ ts) [] = false
has_against (t ∷ ts) (m ∷ ms) = is_against t m || has_against ts ms

-- the mark, where it is a signal's
abbrev pub mark_left : NetTerm → Mark → Option Mark
mark_left term.Zero m = None
mark_left term.One m = None
mark_left (term.Signal s) m = Some m

-- the marks of signals
abbrev pub marks_left : List NetTerm → List Mark → List Mark
marks_left [] ms = []
marks_left (t ∷ ts) [] = []
marks_left (t ∷ ts) (m ∷ ms) = cons_option (mark_left t m) (marks_left ts ms)

-- the row of the signals, where no mark is against a constant
abbrev pub row_left : List NetTerm → Row → Option Row
row_left ts row = if has_against ts row.marks then None else Some (record { marks = marks_left ts row.marks })

-- the function of the signals that is left of a node whose inputs are these terms
abbrev pub gate_left : List NetTerm → Node → Gate
gate_left ts node = record { inputs = filter_map signal_of ts; output = node.cover.output; rows = filter_map (row_left ts) node.cover.rows }

-- what is left of a node with the terms of all signals
abbrev pub gate_with : List NetTerm → Node → Gate
gate_with terms node = gate_left (map (term_of terms) node.inputs) node

-- the value of a function of signals in a valuation
abbrev pub gate_value : List Bool → Gate → Bool
gate_value v gate = if list_any (λ (row : Row). agrees row.marks (signals v gate.inputs)) gate.rows then gate.output else not gate.output

-- the term of a constant
abbrev pub constant : Bool → NetTerm
constant true = term.One
constant false = term.Zero

-- the one mark of the one row makes the function its one input
abbrev pub is_copy_mark : Bool → Mark → Bool
is_copy_mark true mark.One = true
is_copy_mark false mark.Zero = true
is_copy_mark output m = false

abbrev pub is_copy_row : Bool → List Mark → Bool
is_copy_row output (m ∷ []) = is_copy_mark output m
is_copy_row output ms = false

abbrev pub is_copy : Bool → List Row → Bool
is_copy output (row ∷ []) = is_copy_row output row.marks
is_copy output rows = false

-- the constant or the signal that a function of signals is, where its rows show it
abbrev pub settled : Gate → Option NetTerm
settled gate =
    if length gate.rows == 0 then Some (constant (not gate.output))
    else if list_any (λ row. not (has_literal row)) gate.rows then Some (constant gate.output)
    else if is_copy gate.output gate.rows then option_map term.Signal (slice_get gate.inputs 0)
    else None

-- A function of signals as a list of numbers, by which equal ones are found.

abbrev pub mark_number : Mark → ℕ
mark_number mark.Zero = 0
mark_number mark.One = 1
mark_number mark.Dash = 2

-- a row's marks and 3
abbrev pub row_numbers : Row → List ℕ
row_numbers row = map mark_number row.marks ++ 3 ∷ []

abbrev pub output_number : Bool → ℕ
output_number true = 1
output_number false = 0

-- the output, the rows, 4, and the inputs
abbrev pub key_of : Gate → List ℕ
key_of gate = (output_number gate.output ∷ flat_map row_numbers gate.rows) ++ 4 ∷ gate.inputs
