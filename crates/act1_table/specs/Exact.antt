-- Where a line says its numbers exactly. A number of any length that is greater than its cap is read as the cap, so a number below its cap is the one that was spelled, and the cap itself may stand for a greater one.
use Rattle.std.specs.Prelude.{ℕ, suc, zero, ◌<◌, Bool, true, false, ◌&&◌, List, [], ◌∷◌}
use Rattle.std.specs.List.{list_all}
use Rattle.act1_table.specs.Table.{Part}
use Rattle.act1_table.specs.Table.{Text, Number}
use Rattle.act1_table.specs.Table.{Field}
use Rattle.act1_table.specs.Table as field
use Rattle.act1_table.specs.Table.{Form}
use Rattle.act1_table.specs.declared.forms.Limit.{Limit}
use Rattle.act1_table.specs.declared.forms.Limit.TheVariants as limit
use Rattle.act1_table.specs.declared.forms.Given.{Given}
use Rattle.act1_table.specs.declared.forms.Given.TheVariants as given
use Rattle.act1_table.specs.declared.forms.LineGiven.{LineGiven}

-- the number is below its cap, if it has one
abbrev pub IsBelowCap : Limit → ℕ → Type 0
IsBelowCap (limit.Most most) n = Unit {0}
IsBelowCap (limit.Cap most) n = n < most

abbrev pub AreBelowCaps : List Part → List ℕ → Type 0
AreBelowCaps [] numbers = Unit {0}
AreBelowCaps (Text bytes ∷ parts) numbers = AreBelowCaps parts numbers
AreBelowCaps (Number limit ∷ parts) [] = Unit {0}
AreBelowCaps (Number limit ∷ parts) (n ∷ numbers) = IsBelowCap limit n × AreBelowCaps parts numbers

abbrev pub IsExactWay : List (List Part) → ℕ → List ℕ → Type 0
IsExactWay [] k numbers = Unit {0}
IsExactWay (way ∷ ways) zero numbers = AreBelowCaps way numbers
IsExactWay (way ∷ ways) (suc k) numbers = IsExactWay ways k numbers

abbrev pub IsExactWord : Field → Given → Type 0
IsExactWord (field.OneOf ways) (given.Way k numbers) = IsExactWay ways k numbers
IsExactWord _ _ = Unit {0}

abbrev pub AreExactWords : List Field → Field → List Given → Type 0
AreExactWords fields rest [] = Unit {0}
AreExactWords [] rest (word ∷ words) = IsExactWord rest word × AreExactWords [] rest words
AreExactWords (field ∷ fields) rest (word ∷ words) = IsExactWord field word × AreExactWords fields rest words

abbrev pub IsExactForm : List Form → ℕ → List Given → Type 0
IsExactForm [] k words = Unit {0}
IsExactForm (form ∷ forms) zero words = AreExactWords form.fields form.rest words
IsExactForm (form ∷ forms) (suc k) words = IsExactForm forms k words

-- each number of the line is below its cap, if it has one
abbrev pub IsExact : List Form → LineGiven → Type 0
IsExact table line = IsExactForm table line.form line.words

-- no number of the table has a cap
abbrev pub is_plain_part : Part → Bool
is_plain_part (Text bytes) = true
is_plain_part (Number (limit.Most most)) = true
is_plain_part (Number (limit.Cap most)) = false

abbrev pub is_plain_field : Field → Bool
is_plain_field field.Name = true
is_plain_field (field.OneOf ways) = list_all (λ (way : List Part). list_all is_plain_part way) ways

abbrev pub is_plain_form : Form → Bool
is_plain_form form = list_all is_plain_field form.fields && is_plain_field form.rest

abbrev pub is_plain : List Form → Bool
is_plain table = list_all is_plain_form table
