-- Tables each of whose lines says one thing. It is tested on the table itself.
use Rattle.std.specs.Prelude.{ℕ, Bool, true, false, not, ◌&&◌, ◌||◌, ◌==◌, nat_le, List, [], ◌∷◌}
use Rattle.std.specs.List.{list_all}
use Rattle.std.specs.Str.{bytes_eq}
use Rattle.act1_base.specs.Capped.{is_digit}
use Rattle.act1_table.specs.Table.{Part}
use Rattle.act1_table.specs.Table.{Text, Number}
use Rattle.act1_table.specs.Table.{Field}
use Rattle.act1_table.specs.Table as field
use Rattle.act1_table.specs.Table.{Form}
use Rattle.act1_table.specs.declared.forms.Limit.{Limit}
use Rattle.act1_table.specs.declared.forms.Limit.TheVariants as limit

-- the text begins, with another byte than a digit
abbrev pub begins_other : List ℕ → Bool
begins_other [] = false
begins_other (b ∷ bytes) = not (is_digit b)

-- no digit can stand behind a number
abbrev pub ends_number : List Part → Bool
ends_number [] = true
ends_number (Text text ∷ parts) = begins_other text
ends_number (Number limit ∷ parts) = false

-- a byte that parts no words and ends no line
abbrev pub is_inner : ℕ → Bool
is_inner b = nat_le 33 b

-- the limit has at most 64 bits
abbrev pub is_clear_limit : Limit → Bool
is_clear_limit (limit.Most most) = nat_le most 18446744073709551615
is_clear_limit (limit.Cap most) = nat_le most 18446744073709551615

-- numbers have at most 64 bits and end where another byte begins, and no text has a space or a line feed
abbrev pub are_clear_parts : List Part → Bool
are_clear_parts [] = true
are_clear_parts (Text text ∷ parts) = list_all is_inner text && are_clear_parts parts
are_clear_parts (Number limit ∷ parts) = is_clear_limit limit && ends_number parts && are_clear_parts parts

-- the two begin with different bytes
abbrev pub begin_apart : List ℕ → List ℕ → Bool
begin_apart (a ∷ first) (b ∷ second) = not (a == b)
begin_apart _ _ = false

-- the two are fixed words that differ, or begin with different bytes
abbrev pub are_apart : List Part → List Part → Bool
are_apart (Text s ∷ []) (Text t ∷ []) = not (bytes_eq s t)
are_apart (Text s ∷ parts) (Text t ∷ others) = begin_apart s t
are_apart (Text s ∷ parts) (Number limit ∷ others) = begins_other s
are_apart (Number limit ∷ parts) (Text t ∷ others) = begins_other t
are_apart _ _ = false

-- it is apart from each of these
abbrev pub is_apart_from : List Part → List (List Part) → Bool
is_apart_from parts ways = list_all (λ (way : List Part). are_apart parts way) ways

-- each is clear, and apart from those behind it
abbrev pub are_clear_ways : List (List Part) → Bool
are_clear_ways [] = true
are_clear_ways (way ∷ ways) = are_clear_parts way && is_apart_from way ways && are_clear_ways ways

abbrev pub is_clear_field : Field → Bool
is_clear_field field.Name = true
is_clear_field (field.OneOf ways) = are_clear_ways ways

-- no word is of both
abbrev pub are_fields_apart : Field → Field → Bool
are_fields_apart (field.OneOf ways) (field.OneOf others) = list_all (λ (way : List Part). is_apart_from way others) ways
are_fields_apart _ _ = false

-- the fields of some place are apart, where behind the fields of a form stands its last field
abbrev pub are_forms_apart : List Field → Field → List Field → Field → Bool
are_forms_apart [] rest [] last = false
are_forms_apart [] rest (other ∷ others) last = are_fields_apart rest other
are_forms_apart (field ∷ fields) rest [] last = are_fields_apart field last
are_forms_apart (field ∷ fields) rest (other ∷ others) last = are_fields_apart field other || are_forms_apart fields rest others last

abbrev pub is_form_apart_from : Form → List Form → Bool
is_form_apart_from form forms = list_all (λ (other : Form). are_forms_apart form.fields form.rest other.fields other.rest) forms

-- it has a first word
abbrev pub has_word : List Field → Bool
has_word [] = false
has_word (field ∷ fields) = true

-- each form has a first word and clear fields, and no line is of two forms
abbrev pub is_clear : List Form → Bool
is_clear [] = true
is_clear (form ∷ forms) = has_word form.fields && list_all is_clear_field form.fields && is_clear_field form.rest && is_form_apart_from form forms && is_clear forms
