-- What a line of a table says, and the words that say it.
use Rattle.std.specs.Prelude.{ℕ, suc, zero, ◌≤◌, IsTrue, List, [], ◌∷◌, ◌++◌}
use Rattle.std.specs.Fmt.{decimal}
use Rattle.act1_base.specs.Names.{is_name}
use Rattle.act1_table.specs.Table.{Part}
use Rattle.act1_table.specs.Table.{Text, Number}
use Rattle.act1_table.specs.Table.{Field}
use Rattle.act1_table.specs.Table as field
use Rattle.act1_table.specs.Table.{Form}
use Rattle.act1_table.specs.declared.forms.Limit.{Limit}
use Rattle.act1_table.specs.declared.forms.Limit.TheVariants as limit
use Rattle.act1_table.specs.declared.forms.Given.{Given}
use Rattle.act1_table.specs.declared.forms.Given.TheVariants as given
use Rattle.act1_table.specs.declared.forms.LineGiven.{LineGiven}

-- the number is no greater than the limit
abbrev pub IsWithin : Limit → ℕ → Type 0
IsWithin (limit.Most most) n = n ≤ most
IsWithin (limit.Cap most) n = n ≤ most

-- the parts have these numbers
abbrev pub FitParts : List Part → List ℕ → Type 0
FitParts [] [] = Unit {0}
FitParts [] (n ∷ numbers) = ⊥
FitParts (Text bytes ∷ parts) numbers = FitParts parts numbers
FitParts (Number limit ∷ parts) [] = ⊥
FitParts (Number limit ∷ parts) (n ∷ numbers) = IsWithin limit n × FitParts parts numbers

-- the parts with these numbers, one behind the other
abbrev pub spell_parts : List Part → List ℕ → List ℕ
spell_parts [] numbers = []
spell_parts (Text bytes ∷ parts) numbers = bytes ++ spell_parts parts numbers
spell_parts (Number limit ∷ parts) [] = []
spell_parts (Number limit ∷ parts) (n ∷ numbers) = decimal n ++ spell_parts parts numbers

-- the way of this number has these numbers
abbrev pub FitWay : List (List Part) → ℕ → List ℕ → Type 0
FitWay [] k numbers = ⊥
FitWay (way ∷ ways) zero numbers = FitParts way numbers
FitWay (way ∷ ways) (suc k) numbers = FitWay ways k numbers

-- the way of this number, with these numbers
abbrev pub spell_way : List (List Part) → ℕ → List ℕ → List ℕ
spell_way [] k numbers = []
spell_way (way ∷ ways) zero numbers = spell_parts way numbers
spell_way (way ∷ ways) (suc k) numbers = spell_way ways k numbers

-- a word of the field can say this
abbrev pub Fits : Field → Given → Type 0
Fits field.Name (given.Name name) = IsTrue (is_name name)
Fits (field.OneOf ways) (given.Way k numbers) = FitWay ways k numbers
Fits _ _ = ⊥

-- the one word that says it
abbrev pub spell : Field → Given → List ℕ
spell _ (given.Name name) = name
spell (field.OneOf ways) (given.Way k numbers) = spell_way ways k numbers
spell field.Name (given.Way k numbers) = []

-- a line can say this: each of the fields has its word, and each word behind them is of the last field
abbrev pub FitFields : List Field → Field → List Given → Type 0
FitFields [] rest [] = Unit {0}
FitFields [] rest (word ∷ words) = Fits rest word × FitFields [] rest words
FitFields (field ∷ fields) rest [] = ⊥
FitFields (field ∷ fields) rest (word ∷ words) = Fits field word × FitFields fields rest words

-- the words that say it
abbrev pub spell_fields : List Field → Field → List Given → List (List ℕ)
spell_fields fields rest [] = []
spell_fields [] rest (word ∷ words) = spell rest word ∷ spell_fields [] rest words
spell_fields (field ∷ fields) rest (word ∷ words) = spell field word ∷ spell_fields fields rest words

-- a line of the form of this number can say this
abbrev pub FitForms : List Form → ℕ → List Given → Type 0
FitForms [] k words = ⊥
FitForms (form ∷ forms) zero words = FitFields form.fields form.rest words
FitForms (form ∷ forms) (suc k) words = FitForms forms k words

-- the words of a line of the form of this number
abbrev pub spell_forms : List Form → ℕ → List Given → List (List ℕ)
spell_forms [] k words = []
spell_forms (form ∷ forms) zero words = spell_fields form.fields form.rest words
spell_forms (form ∷ forms) (suc k) words = spell_forms forms k words

-- a line of the table can say this
abbrev pub FitsTable : List Form → LineGiven → Type 0
FitsTable table line = FitForms table line.form line.words

-- the words of the line that says it
abbrev pub line_words : List Form → LineGiven → List (List ℕ)
line_words table line = spell_forms table line.form line.words
