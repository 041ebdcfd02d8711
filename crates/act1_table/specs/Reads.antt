-- What is read of the words of a line. That it is what the line says, and nothing else is, is the law of tables (TableLaw).
use Rattle.std.specs.Prelude.{ℕ, ◌+◌, Bool, ◌&&◌, nat_le, if◌then◌else◌, List, [], ◌∷◌, ◌++◌, Option, Some, None, length, take, drop}
use Rattle.std.specs.Str.{bytes_eq}
use Rattle.std.specs.Str.Parse.{digits_value}
use Rattle.std.specs.List.{prefix_len}
use Rattle.act1_base.specs.Capped.{is_number, is_digit, capped}
use Rattle.act1_base.specs.Names.{is_name}
use Rattle.act1_table.specs.Table.{Part}
use Rattle.act1_table.specs.Table.{Text, Number}
use Rattle.act1_table.specs.Table.{Field}
use Rattle.act1_table.specs.Table as field
use Rattle.act1_table.specs.Table.{Form}
use Rattle.act1_table.specs.declared.forms.Limit.{Limit}
use Rattle.act1_table.specs.declared.forms.Limit.TheVariants as limit
use Rattle.act1_table.specs.declared.forms.Given.{Given}
use Rattle.act1_table.specs.declared.forms.Given.TheVariants as given
use Rattle.act1_table.specs.declared.forms.LineGiven.{LineGiven}

-- goes on with what there is
abbrev pub and_then : {A B : Type 0} → Option A → (A → Option B) → Option B
and_then None more = None
and_then (Some x) more = more x

-- the first if there is one, and else the second
abbrev pub or_else : {A : Type 0} → Option A → Option A → Option A
or_else (Some x) other = Some x
or_else None other = other

-- the word begins with the text
abbrev pub begins : List ℕ → List ℕ → Bool
begins text word = nat_le (length text) (length word) && bytes_eq (take (length text) word) text

-- what stands behind the text, if the word begins with it
abbrev pub behind : List ℕ → List ℕ → Option (List ℕ)
behind text word = if begins text word then Some (drop (length text) word) else None

-- how many digits the word begins with
abbrev pub digits_in_front : List ℕ → ℕ
digits_in_front word = prefix_len is_digit word

-- the number that the digits spell: none above the most, and the cap in the place of a number above it
abbrev pub number_of : Limit → List ℕ → Option ℕ
number_of (limit.Most most) digits = if is_number digits && nat_le (digits_value 10 digits) most then Some (digits_value 10 digits) else None
number_of (limit.Cap most) digits = if is_number digits then Some (capped most digits) else None

-- the numbers of a word of these parts, behind those so far
abbrev pub read_parts : List ℕ → List Part → List ℕ → Option (List ℕ)
read_parts numbers [] [] = Some numbers
read_parts numbers [] (b ∷ bytes) = None
read_parts numbers (Text text ∷ parts) word = and_then (behind text word) (λ rest. read_parts numbers parts rest)
read_parts numbers (Number limit ∷ parts) word = and_then (number_of limit (take (digits_in_front word) word)) (λ n. read_parts (numbers ++ n ∷ []) parts (drop (digits_in_front word) word))

-- the way of this number, with these numbers
abbrev pub as_way : ℕ → Option (List ℕ) → Option Given
as_way k None = None
as_way k (Some numbers) = Some (given.Way k numbers)

-- the first of the ways that the word is, where the first has this number
abbrev pub read_ways : ℕ → List (List Part) → List ℕ → Option Given
read_ways k [] word = None
read_ways k (way ∷ ways) word = or_else (as_way k (read_parts [] way word)) (read_ways (k + 1) ways word)

-- what a word says
abbrev pub read_word : Field → List ℕ → Option Given
read_word field.Name word = if is_name word then Some (given.Name word) else None
read_word (field.OneOf ways) word = read_ways 0 ways word

-- what the words say, behind those so far
abbrev pub read_fields : List Given → List Field → Field → List (List ℕ) → Option (List Given)
read_fields said [] rest [] = Some said
read_fields said (field ∷ fields) rest [] = None
read_fields said [] rest (word ∷ words) = and_then (read_word rest word) (λ one. read_fields (said ++ one ∷ []) [] rest words)
read_fields said (field ∷ fields) rest (word ∷ words) = and_then (read_word field word) (λ one. read_fields (said ++ one ∷ []) fields rest words)

-- the line of the form of this number
abbrev pub as_line : ℕ → Option (List Given) → Option LineGiven
as_line k None = None
as_line k (Some words) = Some (record { form = k; words = words })

-- the first of the forms that the words are, where the first has this number
abbrev pub read_forms : ℕ → List Form → List (List ℕ) → Option LineGiven
read_forms k [] words = None
read_forms k (form ∷ forms) words = or_else (as_line k (read_fields [] form.fields form.rest words)) (read_forms (k + 1) forms words)
