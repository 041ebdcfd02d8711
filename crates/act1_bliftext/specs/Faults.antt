-- The faults that a line may have, with the lines with words above it as their context. Lines above are listed from the nearest to the first.
use Rattle.std.specs.Prelude.{ℕ, ◌≡◌, Bool, true, false, not, ◌==◌, ◌&&◌, ◌||◌, ◌-◌, nat_le, nat_lt, List, [], ◌∷◌, ◌++◌, if◌then◌else◌, length, slice_index, Option, Some, None}
use Rattle.std.specs.Option.{option_or, is_none}
use Rattle.std.specs.List.{list_all, list_any, find}
use Rattle.act1_base.specs.Names.{is_name_byte}
use Rattle.act1_bliftext.specs.Lines.{Line, text_lines}
use Rattle.act1_bliftext.specs.Forms.{form_of, names_in, latch_names, latch_start, is_other_latch}
use Rattle.act1_bliftext.specs.Rows.{is_row_of, row_value, is_mixed}
use Rattle.act1_bliftext.specs.Tables.{with_names}
use Rattle.act1_bliftext.specs.declared.form.Form.{Form}
use Rattle.act1_bliftext.specs.declared.form.Form.TheVariants as form
use Rattle.act1_bliftext.specs.declared.fault.BlifKind.{BlifKind}
use Rattle.act1_bliftext.specs.declared.fault.BlifKind.TheVariants as kind
use Rattle.act1_bliftext.specs.declared.fault.BlifFault.{BlifFault}

-- the line is a row
abbrev pub is_row_form : Form → Bool
is_row_form form.Row = true
is_row_form _ = false

-- the nearest line above that isn't a row, under which a row stands
abbrev pub head_above : List Line → Option Line
head_above [] = None
head_above (line ∷ above) = if is_row_form (form_of line.first) then head_above above else Some line

-- the rows directly above, from the first to the last
abbrev pub rows_above : List Line → List Line
rows_above [] = []
rows_above (line ∷ above) = if is_row_form (form_of line.first) then rows_above above ++ line ∷ [] else []

-- the different names that the lines above use, in the order of first use
abbrev pub names_above : List Line → List (List ℕ)
names_above [] = []
names_above (line ∷ above) = with_names (names_above above) (names_in line)

-- `.end` stands above
abbrev pub is_end_form : Form → Bool
is_end_form form.End = true
is_end_form _ = false

abbrev pub has_end : List Line → Bool
has_end [] = false
has_end (line ∷ above) = is_end_form (form_of line.first) || has_end above

-- there is a line above
abbrev pub is_later : List Line → Bool
is_later [] = false
is_later (line ∷ above) = true

-- a word of bytes that show, of which the last is no backslash; comments are cut off before, so `#` stands in no word, and no word is empty
abbrev pub is_fine_word : List ℕ → Bool
is_fine_word word = nat_le 1 (length word) && list_all is_name_byte word && not (slice_index word (length word - 1) == 92)

abbrev pub is_bad_word : List ℕ → Bool
is_bad_word word = not (is_fine_word word)

-- Byte: a byte outside comments that is neither a blank nor 0x21 to 0x7E, or a word that ends in a backslash after joining
abbrev pub is_byte_fault : List ℕ → List (List ℕ) → Bool
is_byte_fault first rest = is_bad_word first || list_any is_bad_word rest

-- Word: a first word with a leading dot that isn't known
abbrev pub is_word_fault : Form → Bool
is_word_fault form.Unknown = true
is_word_fault _ = false

-- Shape: a wrong number of words behind the first one
abbrev pub is_shape_fault : Form → ℕ → Bool
is_shape_fault form.Model count = nat_lt 1 count
is_shape_fault form.Names count = nat_lt count 1
is_shape_fault form.Latch count = nat_lt count 2 || nat_lt 5 count
is_shape_fault form.End count = nat_lt 0 count
is_shape_fault _ count = false

-- a row under a line of this form, with this many inputs
abbrev pub fits_form : Form → ℕ → List ℕ → List (List ℕ) → Bool
fits_form form.Names width first rest = is_row_of width first rest
fits_form _ width first rest = false

-- a row may stand under this line: a `.names`, with as many inputs as the row has marks
abbrev pub fits_under : Option Line → List ℕ → List (List ℕ) → Bool
fits_under None first rest = false
fits_under (Some head) first rest = fits_form (form_of head.first) (length head.rest - 1) first rest

-- Row: a row that isn't of the form, or stands where no row may
abbrev pub is_row_fault : Form → Option Line → List ℕ → List (List ℕ) → Bool
is_row_fault form.Row head first rest = not (fits_under head first rest)
is_row_fault _ head first rest = false

-- Mixed: a row with another output character than the first of its `.names`
abbrev pub is_mixed_fault : Form → List Line → Bool → Bool
is_mixed_fault form.Row rows value = is_mixed rows value
is_mixed_fault _ rows value = false

-- LatchKind: a type other than `re`
abbrev pub is_type_fault : Form → List (List ℕ) → Bool
is_type_fault form.Latch rest = is_other_latch rest
is_type_fault _ rest = false

-- Init: an init other than 0, 1, 2 and 3
abbrev pub is_init_fault : Form → List (List ℕ) → Bool
is_init_fault form.Latch rest = is_none (latch_start rest)
is_init_fault _ rest = false

-- After: `.model` that isn't the first line with words, or words after `.end`
abbrev pub is_after_fault : Form → Bool → Bool → Bool
is_after_fault form.Model later ended = later || ended
is_after_fault _ later ended = ended

-- a name of more than 1,024 bytes
abbrev pub is_long : List ℕ → Bool
is_long name = nat_lt 1024 (length name)

-- a name that is too long, or the names that bring the 65,536th different one
abbrev pub are_past_limit : List (List ℕ) → List (List ℕ) → Bool
are_past_limit known names = list_any is_long names || nat_lt 65535 (length (with_names known names))

-- Limit: more than 64 inputs of a `.names`, a name of more than 1,024 bytes, or the line that brings the 65,536th different name
abbrev pub is_limit_fault : Form → List (List ℕ) → List (List ℕ) → Bool
is_limit_fault form.Model known rest = list_any is_long rest
is_limit_fault form.Inputs known rest = are_past_limit known rest
is_limit_fault form.Outputs known rest = are_past_limit known rest
is_limit_fault form.Clock known rest = are_past_limit known rest
is_limit_fault form.Names known rest = nat_lt 65 (length rest) || are_past_limit known rest
is_limit_fault form.Latch known rest = are_past_limit known (latch_names rest)
is_limit_fault form.End known rest = false
is_limit_fault form.Unknown known rest = false
is_limit_fault form.Row known rest = false

-- a line of this form, under these lines, has a fault of this kind
abbrev pub has_fault : List Line → Form → Line → BlifKind → Bool
has_fault above form line kind.Byte = is_byte_fault line.first line.rest
has_fault above form line kind.Word = is_word_fault form
has_fault above form line kind.Shape = is_shape_fault form (length line.rest)
has_fault above form line kind.Row = is_row_fault form (head_above above) line.first line.rest
has_fault above form line kind.Mixed = is_mixed_fault form (rows_above above) (row_value line)
has_fault above form line kind.LatchKind = is_type_fault form line.rest
has_fault above form line kind.Init = is_init_fault form line.rest
has_fault above form line kind.After = is_after_fault form (is_later above) (has_end above)
has_fault above form line kind.Limit = is_limit_fault form (names_above above) line.rest
has_fault above form line _ = false

-- the kinds of fault of a line, from the first to the last
abbrev pub line_kinds : List BlifKind
line_kinds = kind.Byte ∷ kind.Word ∷ kind.Shape ∷ kind.Row ∷ kind.Mixed ∷ kind.LatchKind ∷ kind.Init ∷ kind.After ∷ kind.Limit ∷ []

-- the first kind of fault that a line has under these lines
unfoldable pub fault_of : List Line → Line → Option BlifKind
fault_of above line = find (has_fault above (form_of line.first) line) line_kinds

-- a fault with the number of its line
abbrev pub fault_at : Line → Option BlifKind → Option BlifFault
fault_at line None = None
fault_at line (Some k) = Some (record { line = line.number; kind = k })

-- the first of the lines that has a fault, under these lines, and the first kind that it has
abbrev pub first_fault : List Line → List Line → Option BlifFault
first_fault above [] = None
first_fault above (line ∷ lines) = option_or (fault_at line (fault_of above line)) (first_fault (line ∷ above) lines)

-- the first line of the text that has a fault is this one, and this is the first kind that it has
abbrev pub LineBad : List ℕ → BlifFault → Type 0
LineBad bytes fault = first_fault [] (text_lines bytes) ≡ Some fault
