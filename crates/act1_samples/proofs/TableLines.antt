-- Worked examples of tables of lines: some lines of antifuse files.
use Rattle.std.proofs.Common.{ℕ, ◌≡◌, true, false, List, [], ◌∷◌, refl}
use Rattle.std.specs.Prelude.{codes, Some, None}
use Rattle.std.specs.Fmt.{digits}
use Rattle.act1_table.specs.Clear.{is_clear}
use Rattle.act1_table.specs.Lines.{line_text, read_line}
use Rattle.act1_table.specs.Table.{Text, Number, Field, Name, OneOf, Form, word}
use Rattle.act1_table.specs.Values.{fixed, number}
use Rattle.act1_table.specs.declared.forms.Given.{Given}
use Rattle.act1_table.specs.declared.forms.Given.TheVariants as given
use Rattle.act1_table.specs.declared.forms.Limit.TheVariants.{Most, Cap}
use Rattle.act1_table.specs.declared.forms.LineGiven.{LineGiven}

abbrev any_number : Field
any_number = OneOf ((Number (Cap 65536) ∷ []) ∷ [])

abbrev track : Field
track = OneOf ((Number (Cap 65536) ∷ []) ∷ (Text (codes "gnd") ∷ []) ∷ (Text (codes "vcc") ∷ []) ∷ (Text (codes "clk") ∷ []) ∷ [])

-- `start ROW COLUMN INIT NAME`
abbrev start_form : Form
start_form = record { fields = word (codes "start") ∷ any_number ∷ any_number ∷ OneOf ((Number (Most 3) ∷ []) ∷ []) ∷ Name ∷ []; rest = OneOf [] }

-- `fuse CHANNEL TRACK along INDEX`
abbrev along_form : Form
along_form = record { fields = word (codes "fuse") ∷ any_number ∷ track ∷ word (codes "along") ∷ any_number ∷ []; rest = OneOf [] }

-- `fuse CHANNEL TRACK pad PAD`
abbrev pad_form : Form
pad_form = record { fields = word (codes "fuse") ∷ any_number ∷ track ∷ word (codes "pad") ∷ any_number ∷ []; rest = OneOf [] }

-- a choice, a clash and a step, any number of them
abbrev hints_form : Form
hints_form = record {
  fields = word (codes "hints") ∷ [];
  rest = OneOf (
      (Number (Most 8191) ∷ Text (codes "@") ∷ Number (Most 63) ∷ [])
      ∷ (Text (codes "x") ∷ Number (Most 8191) ∷ Text (codes ",") ∷ Number (Most 8191) ∷ Text (codes "@") ∷ Number (Most 63) ∷ [])
      ∷ (Text (codes "s") ∷ Number (Most 4294967295) ∷ []) ∷ []);
}

abbrev pub lines : List Form
lines = start_form ∷ along_form ∷ pad_form ∷ hints_form ∷ []

lines_are_clear : is_clear lines ≡ true
lines_are_clear = refl

-- a name may be any word, so the two forms have a line in common
named_twice : is_clear (record { fields = word (codes "a") ∷ Name ∷ []; rest = OneOf [] } ∷ record { fields = word (codes "a") ∷ word (codes "b") ∷ []; rest = OneOf [] } ∷ []) ≡ false
named_twice = refl

-- nor may a digit stand behind a number
number_runs_on : is_clear (record { fields = OneOf ((Number (Most 9) ∷ Text (codes "0") ∷ []) ∷ []) ∷ []; rest = OneOf [] } ∷ []) ≡ false
number_runs_on = refl

abbrev way : ℕ → List ℕ → Given
way k numbers = given.Way k numbers

abbrev line : ℕ → List Given → LineGiven
line k words = record { form = k; words = words }

start : read_line lines (codes "start 1 23 2 q") ≡ Some (line 0 (fixed ∷ number 1 ∷ number 23 ∷ number 2 ∷ given.Name (codes "q") ∷ []))
start = refl

start_text : line_text lines (line 0 (fixed ∷ number 1 ∷ number 23 ∷ number 2 ∷ given.Name (codes "q") ∷ [])) ≡ codes "start 1 23 2 q"
unfolding digits
start_text = refl

along : read_line lines (codes "fuse 3 14 along 0") ≡ Some (line 1 (fixed ∷ number 3 ∷ number 14 ∷ fixed ∷ number 0 ∷ []))
along = refl

pad : read_line lines (codes "fuse 0 vcc pad 1") ≡ Some (line 2 (fixed ∷ number 0 ∷ way 2 [] ∷ fixed ∷ number 1 ∷ []))
pad = refl

hints : read_line lines (codes "hints 7@1 x3,12@0 s5") ≡ Some (line 3 (fixed ∷ way 0 (7 ∷ 1 ∷ []) ∷ way 1 (3 ∷ 12 ∷ 0 ∷ []) ∷ way 2 (5 ∷ []) ∷ []))
hints = refl

no_hints : read_line lines (codes "hints") ≡ Some (line 3 (fixed ∷ []))
no_hints = refl

-- a number of any length that is greater than its cap is read as the cap
capped : read_line lines (codes "fuse 0 gnd pad 100000000000000000000000") ≡ Some (line 2 (fixed ∷ number 0 ∷ way 1 [] ∷ fixed ∷ number 65536 ∷ []))
capped = refl

-- a number above its greatest, a leading zero, two spaces, a word that isn't in the list, a word too few and one too many
large : read_line lines (codes "start 1 23 4 q") ≡ None
large = refl

leading_zero : read_line lines (codes "fuse 0 01 pad 1") ≡ None
leading_zero = refl

two_spaces : read_line lines (codes "fuse 0  vcc pad 1") ≡ None
two_spaces = refl

other_word : read_line lines (codes "fuse 0 gne pad 1") ≡ None
other_word = refl

too_few : read_line lines (codes "fuse 0 vcc pad") ≡ None
too_few = refl

too_many : read_line lines (codes "fuse 0 vcc pad 1 2") ≡ None
too_many = refl

no_line : read_line lines [] ≡ None
no_line = refl
