-- What the words of a line are. The source is Berkeley's BLIF.
use Rattle.std.specs.Prelude.{ℕ, Bool, false, not, ◌==◌, ◌&&◌, ◌-◌, if◌then◌else◌, nat_le, List, [], ◌∷◌, Option, Some, None}
use Rattle.std.specs.Prelude.{codes}
use Rattle.std.specs.Str.{bytes_eq}
use Rattle.act1_bliftext.specs.Lines.{Line}
use Rattle.act1_bliftext.specs.declared.form.Form.{Form}
use Rattle.act1_bliftext.specs.declared.form.Form.TheVariants as form

-- a word with a leading dot
abbrev pub is_dotted : List ℕ → Bool
is_dotted [] = false
is_dotted (b ∷ bytes) = b == 46

-- the form of a line, by its first word
unfoldable pub form_of : List ℕ → Form
form_of word =
    if bytes_eq word (codes ".model") then form.Model else
    if bytes_eq word (codes ".inputs") then form.Inputs else
    if bytes_eq word (codes ".outputs") then form.Outputs else
    if bytes_eq word (codes ".clock") then form.Clock else
    if bytes_eq word (codes ".names") then form.Names else
    if bytes_eq word (codes ".latch") then form.Latch else
    if bytes_eq word (codes ".end") then form.End else
    if is_dotted word then form.Unknown else form.Row

-- a control, unless it is `NIL`
unfoldable pub control_names : List ℕ → List (List ℕ)
control_names control = if bytes_eq control (codes "NIL") then [] else control ∷ []

-- the control among the words behind a latch's input and output: it stands behind a type
abbrev pub latch_control : List (List ℕ) → List (List ℕ)
latch_control [] = []
latch_control (init ∷ []) = []
latch_control (kind ∷ control ∷ rest) = control_names control

-- the names of a latch: input, output, and the control if it has one
abbrev pub latch_names : List (List ℕ) → List (List ℕ)
latch_names [] = []
latch_names (input ∷ []) = []
latch_names (input ∷ output ∷ rest) = input ∷ output ∷ latch_control rest

-- the names that a line of this form uses; the model's name isn't one of them
abbrev pub names_by : Form → List (List ℕ) → List (List ℕ)
names_by form.Model rest = []
names_by form.Inputs rest = rest
names_by form.Outputs rest = rest
names_by form.Clock rest = rest
names_by form.Names rest = rest
names_by form.Latch rest = latch_names rest
names_by form.End rest = []
names_by form.Unknown rest = []
names_by form.Row rest = []

-- the names that a line uses, in order
abbrev pub names_in : Line → List (List ℕ)
names_in line = names_by (form_of line.first) line.rest

-- the value that a word gives for an init, if it is 0, 1, 2 or 3
abbrev pub init_value : List ℕ → Option ℕ
init_value [] = None
init_value (b ∷ []) = if nat_le 48 b && nat_le b 51 then Some (b - 48) else None
init_value (b ∷ c ∷ bytes) = None

-- the init by the words behind a latch's input and output: 3 where none is given, and nothing where it is none of the four
abbrev pub start_by : List (List ℕ) → Option ℕ
start_by [] = Some 3
start_by (init ∷ []) = init_value init
start_by (kind ∷ control ∷ []) = Some 3
start_by (kind ∷ control ∷ init ∷ rest) = init_value init

-- the init of a latch, by all words behind `.latch`
abbrev pub latch_start : List (List ℕ) → Option ℕ
latch_start [] = None
latch_start (input ∷ []) = None
latch_start (input ∷ output ∷ rest) = start_by rest

-- a type other than `re`, among the words behind a latch's input and output
abbrev pub is_other_type : List (List ℕ) → Bool
is_other_type [] = false
is_other_type (init ∷ []) = false
is_other_type (kind ∷ control ∷ rest) = not (bytes_eq kind (codes "re"))

-- a latch of a type other than `re`, by all words behind `.latch`
abbrev pub is_other_latch : List (List ℕ) → Bool
is_other_latch [] = false
is_other_latch (input ∷ []) = false
is_other_latch (input ∷ output ∷ rest) = is_other_type rest

-- the name behind `.model`
abbrev pub model_name : List (List ℕ) → Option (List ℕ)
model_name [] = None
model_name (name ∷ rest) = Some name
