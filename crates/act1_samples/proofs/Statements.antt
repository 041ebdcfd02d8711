-- Worked examples of texts and their first faults.
use Rattle.std.proofs.Common.{ℕ, ◌≡◌, true, false, List, [], ◌∷◌, Some, None, refl}
use Rattle.std.specs.Prelude.{codes, replicate}
use Rattle.std.specs.List.{join_with_byte}
use Rattle.act1_bliftext.specs.Lines.{text_lines, before_backslash}
use Rattle.act1_bliftext.specs.Forms.{form_of, control_names, latch_names, latch_start}
use Rattle.act1_bliftext.specs.Tables.{with_names}
use Rattle.act1_bliftext.specs.Faults.{LineBad, fault_of, first_fault, is_limit_fault, is_shape_fault, is_long}
use Rattle.act1_bliftext.specs.declared.fault.BlifKind.TheVariants as kind
use Rattle.act1_bliftext.specs.declared.form.Form.TheVariants as form

-- the text of these lines
abbrev text : List (List ℕ) → List ℕ
text lines = join_with_byte 10 lines

-- a line that is joined to the next, with a comment behind the backslash
joined : text_lines (text (codes ".inputs a \\ # on" ∷ codes " b" ∷ [])) ≡ record { number = 1; first = codes ".inputs"; rest = codes "a" ∷ codes "b" ∷ [] } ∷ []
joined = refl

-- a line of a backslash alone begins a joined line, and lines without words are skipped
begun : text_lines (text ([] ∷ codes "\\" ∷ codes ".end" ∷ [])) ≡ record { number = 2; first = codes ".end"; rest = [] } ∷ []
begun = refl

-- at the end of the text a line is joined to nothing
joined_to_nothing : text_lines (codes ".inputs a\\") ≡ record { number = 1; first = codes ".inputs"; rest = codes "a" ∷ [] } ∷ []
joined_to_nothing = refl

nothing : text_lines (32 ∷ 9 ∷ 13 ∷ 10 ∷ 10 ∷ 32 ∷ []) ≡ []
nothing = refl

-- a backslash inside a word joins nothing
inner : before_backslash (codes "a\\b") ≡ None
inner = refl

-- one backslash alone is lost
two_backslashes : LineBad (text (codes ".inputs a\\\\" ∷ codes "b" ∷ [])) (record { line = 1; kind = kind.Byte })
unfolding fault_of form_of
two_backslashes = refl

row_behind_end : LineBad (text (codes ".end" ∷ codes "1" ∷ [])) (record { line = 2; kind = kind.Row })
unfolding fault_of form_of
row_behind_end = refl

word_behind_end : LineBad (text (codes ".end" ∷ codes ".foo" ∷ [])) (record { line = 2; kind = kind.Word })
unfolding fault_of form_of
word_behind_end = refl

shape_behind_end : LineBad (text (codes ".end" ∷ codes ".end x" ∷ [])) (record { line = 2; kind = kind.Shape })
unfolding fault_of form_of
shape_behind_end = refl

line_behind_end : LineBad (text (codes ".end" ∷ codes ".names y" ∷ [])) (record { line = 2; kind = kind.After })
unfolding fault_of form_of
line_behind_end = refl

second_model : LineBad (text (codes ".model" ∷ codes ".model" ∷ [])) (record { line = 2; kind = kind.After })
unfolding fault_of form_of
second_model = refl

mixed_rows : LineBad (text (codes ".names b a" ∷ codes "1 1" ∷ codes "0 0" ∷ codes ".end" ∷ [])) (record { line = 3; kind = kind.Mixed })
unfolding fault_of form_of
mixed_rows = refl

-- the rows of another `.names` don't matter
rows_apart : first_fault [] (text_lines (text (codes ".names b a" ∷ codes "1 1" ∷ codes ".names a c" ∷ codes "0 0" ∷ codes ".end" ∷ []))) ≡ None
unfolding fault_of form_of
rows_apart = refl

other_type : LineBad (codes ".latch a q none c") (record { line = 1; kind = kind.LatchKind })
unfolding fault_of form_of
other_type = refl

other_init : LineBad (codes ".latch a q re") (record { line = 1; kind = kind.Init })
unfolding fault_of form_of
other_init = refl

-- the control `NIL` is none, and a missing init is 3
no_control : latch_names (codes "a" ∷ codes "q" ∷ codes "re" ∷ codes "NIL" ∷ []) ≡ codes "a" ∷ codes "q" ∷ []
unfolding control_names
no_control = refl

missing_init : latch_start (codes "a" ∷ codes "q" ∷ codes "re" ∷ codes "c" ∷ []) ≡ Some 3
missing_init = refl

-- 65 inputs are no fault of shape, but one of the limits
many_inputs : is_limit_fault form.Names [] (replicate 66 (codes "x")) ≡ true
many_inputs = refl

enough_inputs : is_limit_fault form.Names [] (replicate 65 (codes "x")) ≡ false
enough_inputs = refl

no_shape : is_shape_fault form.Names 66 ≡ false
no_shape = refl

long_name : is_long (replicate 1025 97) ≡ true
long_name = refl

not_long_name : is_long (replicate 1024 97) ≡ false
not_long_name = refl

-- names in the order of their first use
first_uses : with_names [] (codes "b" ∷ codes "a" ∷ codes "b" ∷ codes "c" ∷ []) ≡ codes "b" ∷ codes "a" ∷ codes "c" ∷ []
first_uses = refl
