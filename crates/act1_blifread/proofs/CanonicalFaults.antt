-- Lines of a netlist's canonical text have no fault.
use Rattle.std.proofs.Common.{ℕ, zero, suc, ◌≡◌, ◌+◌, ◌-◌, ◌≤◌, eqb, leb, ltb, cond, Bool, true, false, not, ◌&&◌, ◌||◌, List, [], ◌∷◌, ◌++◌, length, get_or, map, Option, Some, None, codes, refl, sym, ap, subst, ◌∙◌, arith, append_assoc, length-append}
use Rattle.std.specs.Option.{option_or, is_none}
use Rattle.std.specs.Fmt.{decimal, digits}
use Rattle.std.specs.List.{list_all, list_any, find}
use Rattle.std.specs.Str.{bytes_eq}
use Rattle.std.proofs.lemmas.List.{length-map}
use Rattle.std.proofs.lemmas.Bool.{and_parts, and_from, or_from, leb-true}
use Rattle.std.proofs.lemmas.Bool.Decides.{nat_tests}
use Rattle.std.proofs.lemmas.List.Folds.{list_any-append}
use Rattle.act1_base.specs.Names.{is_name, is_name_byte, are_different}
use Rattle.act1_logic.specs.declared.cover.Mark.{Mark}
use Rattle.act1_logic.specs.declared.cover.Mark.TheVariants.{Zero, One, Dash}
use Rattle.act1_logic.specs.declared.cover.Row.{Row}
use Rattle.act1_bliftext.specs.Lines.{Line, over}
use Rattle.act1_bliftext.specs.Forms.{form_of, names_by, latch_names, control_names, init_value}
use Rattle.act1_bliftext.specs.Rows.{is_row_of, is_mark, is_value, is_mixed, row_value, differ}
use Rattle.act1_bliftext.specs.Tables.{with_names}
use Rattle.act1_bliftext.specs.Faults.{is_row_form, head_above, rows_above, names_above, has_end, is_later, is_end_form, is_fine_word, is_bad_word, is_byte_fault, fits_under, fits_form, is_word_fault, is_shape_fault, is_row_fault, is_mixed_fault, is_type_fault, is_init_fault, is_after_fault, is_long, are_past_limit, is_limit_fault, has_fault, line_kinds, fault_of, fault_at, first_fault}
use Rattle.act1_bliftext.specs.declared.fault.BlifKind.{BlifKind}
use Rattle.act1_bliftext.specs.declared.fault.BlifKind.TheVariants as kind
use Rattle.act1_bliftext.specs.declared.form.Form.{Form}
use Rattle.act1_bliftext.specs.declared.form.Form.TheVariants as form
use Rattle.act1_blif.specs.Text.{mark_byte, output_word}
use Rattle.act1_blifread.proofs.CanonicalNames.{is_in, all_passes, tests_more, differ_more, no_more}

turned : (b : Bool) → b ≡ true → not b ≡ false
turned true h = refl
turned false h = cc

not_long : (n : ℕ) → leb n 1024 ≡ true → ltb 1024 n ≡ false
not_long n h = grind (arith, nat_tests)

-- a name is a fine word and not too long
pub record IsFine (word : List ℕ) : Type 0 where
  pub fine : is_fine_word word ≡ true
  pub bad : is_bad_word word ≡ false
  pub short : is_long word ≡ false

pub name_fine : (word : List ℕ) → is_name word ≡ true → IsFine word
name_fine word h =
    let last = not (eqb (get_or word (length word - 1) 0) 92) in
    let ends = and_parts (leb 1 (length word) && leb (length word) 1024 && list_all is_name_byte word) last h in
    let bytes = and_parts (leb 1 (length word) && leb (length word) 1024) (list_all is_name_byte word) ends.0 in
    let size = and_parts (leb 1 (length word)) (leb (length word) 1024) bytes.0 in
    let fine : is_fine_word word ≡ true = and_from (leb 1 (length word) && list_all is_name_byte word) last (and_from (leb 1 (length word)) (list_all is_name_byte word) size.0 bytes.1) ends.1 in
    record { fine = fine; bad = turned (is_fine_word word) fine; short = not_long (length word) size.1 }

pub names_good : (words : List (List ℕ)) → list_all is_name words ≡ true → list_any is_bad_word words ≡ false
names_good [] h = refl
names_good (word ∷ words) h =
    let parts = and_parts (is_name word) (list_all is_name words) h in
    or_from (is_bad_word word) (list_any is_bad_word words) (name_fine word parts.0).bad (names_good words parts.1)

names_short : (words : List (List ℕ)) → list_all is_name words ≡ true → list_any is_long words ≡ false
names_short [] h = refl
names_short (word ∷ words) h =
    let parts = and_parts (is_name word) (list_all is_name words) h in
    or_from (is_long word) (list_any is_long words) (name_fine word parts.0).short (names_short words parts.1)

pub names_fine : (words : List (List ℕ)) → list_all is_name words ≡ true → list_all is_fine_word words ≡ true
names_fine [] h = refl
names_fine (word ∷ words) h = let parts = and_parts (is_name word) (list_all is_name words) h in and_from (is_fine_word word) (list_all is_fine_word words) (name_fine word parts.0).fine (names_fine words parts.1)

-- a line of this form, which has no fault of any kind, has no fault
none_found : (test : BlifKind → Bool) (kinds : List BlifKind) → ((k : BlifKind) → test k ≡ false) → find test kinds ≡ None
none_found test [] h = refl
none_found test (k ∷ kinds) h = ap (λ (b : Bool). cond b (Some k) (find test kinds)) (h k) ∙ none_found test kinds h

pub line_free : (above : List Line) (line : Line) (f : Form) → form_of line.first ≡ f → is_byte_fault line.first line.rest ≡ false → is_word_fault f ≡ false → is_shape_fault f (length line.rest) ≡ false
    → is_row_fault f (head_above above) line.first line.rest ≡ false → is_mixed_fault f (rows_above above) (row_value line) ≡ false → is_type_fault f line.rest ≡ false → is_init_fault f line.rest ≡ false
    → is_after_fault f (is_later above) (has_end above) ≡ false → is_limit_fault f (names_above above) line.rest ≡ false → fault_of above line ≡ None
unfolding fault_of
line_free above line f is byte word shape row mixed type init after limit = ap (λ (g : Form). find (has_fault above g line) line_kinds) is ∙ none_found (has_fault above f line) line_kinds none
  where
    none : (k : BlifKind) → has_fault above f line k ≡ false
    none kind.Byte = byte
    none kind.Word = word
    none kind.Shape = shape
    none kind.Row = row
    none kind.Mixed = mixed
    none kind.LatchKind = type
    none kind.Init = init
    none kind.After = after
    none kind.Limit = limit
    none _ = refl

-- the lines above have these names at most, all different, and `.end` isn't among them
pub record IsAbove (all : List (List ℕ)) (above : List Line) : Type 0 where
  pub names : list_all (is_in all) (names_above above) ≡ true
  pub apart : are_different (names_above above) ≡ true
  pub running : has_end above ≡ false
  pub later : is_later above ≡ true

-- a line without a fault, and what stands above the next line
pub record Passes (all : List (List ℕ)) (above : List Line) (line : Line) : Type 0 where
  pub faultless : fault_of above line ≡ None
  pub next : IsAbove all (line ∷ above)

-- the same of lines one after the other: those behind them decide
pub record Pass (all : List (List ℕ)) (above lines : List Line) : Type 0 where
  pub free : (more : List Line) → first_fault above (lines ++ more) ≡ first_fault (over lines above) more
  pub next : IsAbove all (over lines above)

pub pass_none : (all : List (List ℕ)) (above : List Line) → IsAbove all above → Pass all above []
pass_none all above a = record { free = λ more. refl; next = a }

pub pass_more : (all : List (List ℕ)) (above : List Line) (line : Line) (lines : List Line) → fault_of above line ≡ None → Pass all (line ∷ above) lines → Pass all above (line ∷ lines)
pass_more all above line lines p q = record {
  free = λ more. ap (λ (o : Option BlifKind). option_or (fault_at line o) (first_fault (line ∷ above) (lines ++ more))) p ∙ q.free more;
  next = q.next;
}

pub over_both : (lines more above : List Line) → over (lines ++ more) above ≡ over more (over lines above)
over_both [] more above = refl
over_both (line ∷ lines) more above = over_both lines more (line ∷ above)

pub pass_both : (all : List (List ℕ)) (above lines more : List Line) → Pass all above lines → Pass all (over lines above) more → Pass all above (lines ++ more)
pass_both all above lines more p q =
    let both = over_both lines more above in
    record {
      free = λ rest. ap (first_fault above) (append_assoc lines more rest) ∙ p.free (more ++ rest) ∙ q.free rest ∙ ap (λ (ls : List Line). first_fault ls rest) (sym both);
      next = subst (IsAbove all) (sym both) q.next;
    }

few_names : (n m : ℕ) → n ≤ m → m ≤ 65535 → ltb 65535 n ≡ false
few_names n m h k = grind (arith, nat_tests)

module _ (all : List (List ℕ)) (fit : list_all is_name all ≡ true) (few : length all ≤ 65535) where
  -- names among all don't pass the limits
  within : (above : List Line) (words : List (List ℕ)) → IsAbove all above → list_all (is_in all) words ≡ true → are_past_limit (names_above above) words ≡ false
  within above words a h =
      let known = names_above above in
      let size = no_more (with_names known words) all (differ_more words known a.apart) (tests_more (is_in all) words known a.names h) in
      or_from (list_any is_long words) (ltb 65535 (length (with_names known words))) (names_short words (all_passes is_name all words fit h)) (few_names (length (with_names known words)) (length all) size few)

  -- a line that is no row
  said_line : (above : List Line) (line : Line) (f : Form) → form_of line.first ≡ f → is_end_form f ≡ false → is_byte_fault line.first line.rest ≡ false → is_word_fault f ≡ false → is_shape_fault f (length line.rest) ≡ false
      → is_row_fault f (head_above above) line.first line.rest ≡ false → is_mixed_fault f (rows_above above) (row_value line) ≡ false → is_type_fault f line.rest ≡ false → is_init_fault f line.rest ≡ false
      → is_after_fault f true false ≡ false → is_limit_fault f (names_above above) line.rest ≡ false → list_all (is_in all) (names_by f line.rest) ≡ true → IsAbove all above → Passes all above line
  said_line above line f is open_still byte word shape row mixed type init after limit among a = record {
    faultless = line_free above line f is byte word shape row mixed type init
        (ap (λ (b : Bool). is_after_fault f b (has_end above)) a.later ∙ ap (λ (b : Bool). is_after_fault f true b) a.running ∙ after) limit;
    next = record {
      names = ap (λ (g : Form). list_all (is_in all) (with_names (names_above above) (names_by g line.rest))) is ∙ tests_more (is_in all) (names_by f line.rest) (names_above above) a.names among;
      apart = ap (λ (g : Form). are_different (with_names (names_above above) (names_by g line.rest))) is ∙ differ_more (names_by f line.rest) (names_above above) a.apart;
      running = ap (λ (g : Form). is_end_form g || has_end above) is ∙ or_from (is_end_form f) (has_end above) open_still a.running;
      later = refl;
    };
  }

  -- `.inputs`, `.outputs` and `.clock`
  pub inputs_pass : (above : List Line) (number : ℕ) (words : List (List ℕ)) → list_all (is_in all) words ≡ true → IsAbove all above → Passes all above (record { number = number; first = codes ".inputs"; rest = words })
  unfolding form_of
  inputs_pass above number words h a =
      said_line above (record { number = number; first = codes ".inputs"; rest = words }) form.Inputs refl refl (names_good words (all_passes is_name all words fit h)) refl refl refl refl refl refl refl (within above words a h) h a

  pub outputs_pass : (above : List Line) (number : ℕ) (words : List (List ℕ)) → list_all (is_in all) words ≡ true → IsAbove all above → Passes all above (record { number = number; first = codes ".outputs"; rest = words })
  unfolding form_of
  outputs_pass above number words h a =
      said_line above (record { number = number; first = codes ".outputs"; rest = words }) form.Outputs refl refl (names_good words (all_passes is_name all words fit h)) refl refl refl refl refl refl refl (within above words a h) h a

  pub clock_passes : (above : List Line) (number : ℕ) (words : List (List ℕ)) → list_all (is_in all) words ≡ true → IsAbove all above → Passes all above (record { number = number; first = codes ".clock"; rest = words })
  unfolding form_of
  clock_passes above number words h a =
      said_line above (record { number = number; first = codes ".clock"; rest = words }) form.Clock refl refl (names_good words (all_passes is_name all words fit h)) refl refl refl refl refl refl refl (within above words a h) h a

  -- `.names`
  pub names_pass : (above : List Line) (number : ℕ) (inputs : List (List ℕ)) (output : List ℕ) → length inputs ≤ 64 → list_all (is_in all) (inputs ++ output ∷ []) ≡ true → IsAbove all above
      → Passes all above (record { number = number; first = codes ".names"; rest = inputs ++ output ∷ [] })
  unfolding form_of
  names_pass above number inputs output width h a =
      let words = inputs ++ output ∷ [] in
      let size = length-append inputs (output ∷ []) in
      let some : ltb (length words) 1 ≡ false = some_words (length words) (omega arith) in
      let short : ltb 65 (length words) ≡ false = few_words (length words) (omega arith) in
      said_line above (record { number = number; first = codes ".names"; rest = words }) form.Names refl refl (names_good words (all_passes is_name all words fit h)) refl some refl refl refl refl refl
      (or_from (ltb 65 (length words)) (are_past_limit (names_above above) words) short (within above words a h)) h a
    where
      some_words : (n : ℕ) → 1 ≤ n → ltb n 1 ≡ false
      some_words n k = grind (arith, nat_tests)

      few_words : (n : ℕ) → n ≤ 65 → ltb 65 n ≡ false
      few_words n k = grind (arith, nat_tests)

  -- `.latch` with its init behind input and output
  pub free_latch_passes : (above : List Line) (number : ℕ) (input output init : List ℕ) (start : ℕ) → is_bad_word init ≡ false → init_value init ≡ Some start → list_all (is_in all) (input ∷ output ∷ []) ≡ true → IsAbove all above
      → Passes all above (record { number = number; first = codes ".latch"; rest = input ∷ output ∷ init ∷ [] })
  unfolding form_of
  free_latch_passes above number input output init start good value h a =
      let rest = input ∷ output ∷ init ∷ [] in
      let names = names_good (input ∷ output ∷ []) (all_passes is_name all (input ∷ output ∷ []) fit h) in
      said_line above (record { number = number; first = codes ".latch"; rest = rest }) form.Latch refl refl
      (list_any-append is_bad_word (input ∷ output ∷ []) (init ∷ []) ∙ or_from (list_any is_bad_word (input ∷ output ∷ [])) (is_bad_word init || false) names (or_from (is_bad_word init) false good refl))
      refl refl refl refl refl (ap (λ (o : Option ℕ). is_none o) value) refl (within above (input ∷ output ∷ []) a h) h a

  control_by : (b : Bool) (c : List ℕ) → is_in all c ≡ true → list_all (is_in all) (cond b [] (c ∷ [])) ≡ true
  control_by true c k = refl
  control_by false c k = and_from (is_in all c) true k refl

  control_among : (c : List ℕ) → is_in all c ≡ true → list_all (is_in all) (control_names c) ≡ true
  unfolding control_names
  control_among c k = control_by (bytes_eq c (codes "NIL")) c k

  -- `.latch` with its edge, clock and init behind them
  pub clocked_latch_passes : (above : List Line) (number : ℕ) (input output clock init : List ℕ) (start : ℕ) → is_bad_word init ≡ false → init_value init ≡ Some start → list_all (is_in all) (input ∷ output ∷ clock ∷ []) ≡ true → IsAbove all above
      → Passes all above (record { number = number; first = codes ".latch"; rest = input ∷ output ∷ codes "re" ∷ clock ∷ init ∷ [] })
  unfolding form_of
  clocked_latch_passes above number input output clock init start good value h a =
      let rest = input ∷ output ∷ codes "re" ∷ clock ∷ init ∷ [] in
      let two = and_parts (is_in all input) (is_in all output && (is_in all clock && true)) h in
      let three = and_parts (is_in all output) (is_in all clock && true) two.1 in
      let four = and_parts (is_in all clock) true three.1 in
      let named = all_passes is_name all (input ∷ output ∷ clock ∷ []) fit h in
      let in_two = and_parts (is_name input) (is_name output && (is_name clock && true)) named in
      let in_three = and_parts (is_name output) (is_name clock && true) in_two.1 in
      let in_four = and_parts (is_name clock) true in_three.1 in
      let among : list_all (is_in all) (latch_names rest) ≡ true =
      and_from (is_in all input) (is_in all output && list_all (is_in all) (control_names clock)) two.0 (and_from (is_in all output) (list_all (is_in all) (control_names clock)) three.0 (control_among clock four.0)) in
      said_line above (record { number = number; first = codes ".latch"; rest = rest }) form.Latch refl refl
      (four_good (is_bad_word input) (is_bad_word output) (is_bad_word clock) (is_bad_word init) (name_fine input in_two.0).bad (name_fine output in_three.0).bad (name_fine clock in_four.0).bad good)
      refl refl refl refl refl (ap (λ (o : Option ℕ). is_none o) value) refl (within above (latch_names rest) a among) among a
    where
      four_good : (p q r s : Bool) → p ≡ false → q ≡ false → r ≡ false → s ≡ false → (p || (q || (false || (r || (s || false))))) ≡ false
      four_good p q r s e f g i = cc

-- the words of an init
pub record IsInit (init : ℕ) : Type 0 where
  pub good : is_bad_word (decimal init) ≡ false
  pub value : init_value (decimal init) ≡ Some init
  pub fine : is_fine_word (decimal init) ≡ true

pub init_word : (init : ℕ) → leb init 3 ≡ true → IsInit init
unfolding digits
init_word zero h = record { good = refl; value = refl; fine = refl }
init_word (suc zero) h = record { good = refl; value = refl; fine = refl }
init_word (suc (suc zero)) h = record { good = refl; value = refl; fine = refl }
init_word (suc (suc (suc zero))) h = record { good = refl; value = refl; fine = refl }
init_word (suc (suc (suc (suc n)))) h = let low = leb-true (suc (suc (suc (suc n)))) 3 h in absurd (omega arith)

-- the line of a row
abbrev pub row_line : ℕ → Bool → List Mark → Line
row_line number output [] = record { number = number; first = output_word output; rest = [] }
row_line number output (mark ∷ marks) = record { number = number; first = map mark_byte (mark ∷ marks); rest = output_word output ∷ [] }

-- the lines of rows
abbrev pub row_lines : ℕ → Bool → List Row → List Line
row_lines number output [] = []
row_lines number output (row ∷ rows) = row_line number output row.marks ∷ row_lines (number + 1) output rows

-- the bytes of marks
byte_shows : (mark : Mark) → is_name_byte (mark_byte mark) ≡ true
byte_shows Zero = refl
byte_shows One = refl
byte_shows Dash = refl

bytes_show : (marks : List Mark) → list_all is_name_byte (map mark_byte marks) ≡ true
bytes_show [] = refl
bytes_show (mark ∷ marks) = and_from (is_name_byte (mark_byte mark)) (list_all is_name_byte (map mark_byte marks)) (byte_shows mark) (bytes_show marks)

mark_ends : (mark : Mark) → eqb (mark_byte mark) 92 ≡ false
mark_ends Zero = refl
mark_ends One = refl
mark_ends Dash = refl

marks_end : (mark : Mark) (marks : List Mark) → eqb (get_or (map mark_byte (mark ∷ marks)) (length (map mark_byte (mark ∷ marks)) - 1) 0) 92 ≡ false
marks_end mark [] = mark_ends mark
marks_end mark (next ∷ marks) =
    let bytes = map mark_byte (next ∷ marks) in
    let last : length (mark_byte mark ∷ bytes) - 1 ≡ suc (length bytes - 1) = omega arith in
    ap (λ (k : ℕ). eqb (get_or (mark_byte mark ∷ bytes) k 0) 92) last ∙ marks_end next marks

some_byte : (n : ℕ) → leb 1 (suc n) ≡ true
some_byte n = grind (arith, nat_tests)

not_back : (b : Bool) → b ≡ false → not b ≡ true
not_back true h = cc
not_back false h = refl

pub marks_fine : (mark : Mark) (marks : List Mark) → is_fine_word (map mark_byte (mark ∷ marks)) ≡ true
marks_fine mark marks =
    let word = map mark_byte (mark ∷ marks) in
    let last = eqb (get_or word (length word - 1) 0) 92 in
    and_from (leb 1 (length word) && list_all is_name_byte word) (not last)
    (and_from (leb 1 (length word)) (list_all is_name_byte word) (some_byte (length (map mark_byte marks))) (bytes_show (mark ∷ marks))) (not_back last (marks_end mark marks))

pub output_fine : (output : Bool) → is_fine_word (output_word output) ≡ true
output_fine true = refl
output_fine false = refl

pub row_form : (number : ℕ) (output : Bool) (marks : List Mark) → form_of (row_line number output marks).first ≡ form.Row
unfolding form_of
row_form number true [] = refl
row_form number false [] = refl
row_form number output (Zero ∷ marks) = refl
row_form number output (One ∷ marks) = refl
row_form number output (Dash ∷ marks) = refl

row_good : (number : ℕ) (output : Bool) (marks : List Mark) → is_byte_fault (row_line number output marks).first (row_line number output marks).rest ≡ false
row_good number output [] = or_from (is_bad_word (output_word output)) false (turned (is_fine_word (output_word output)) (output_fine output)) refl
row_good number output (mark ∷ marks) =
    or_from (is_bad_word (map mark_byte (mark ∷ marks))) (is_bad_word (output_word output) || false) (turned (is_fine_word (map mark_byte (mark ∷ marks))) (marks_fine mark marks))
    (or_from (is_bad_word (output_word output)) false (turned (is_fine_word (output_word output)) (output_fine output)) refl)

pub row_says : (number : ℕ) (output : Bool) (marks : List Mark) → row_value (row_line number output marks) ≡ output
row_says number true [] = refl
row_says number false [] = refl
row_says number true (mark ∷ marks) = refl
row_says number false (mark ∷ marks) = refl

a_value : (output : Bool) → is_value (output_word output) ≡ true
a_value true = refl
a_value false = refl

a_mark : (mark : Mark) → is_mark (mark_byte mark) ≡ true
a_mark Zero = refl
a_mark One = refl
a_mark Dash = refl

all_marks : (marks : List Mark) → list_all is_mark (map mark_byte marks) ≡ true
all_marks [] = refl
all_marks (mark ∷ marks) = and_from (is_mark (mark_byte mark)) (list_all is_mark (map mark_byte marks)) (a_mark mark) (all_marks marks)

same_number : (n m : ℕ) → n ≡ m → eqb n m ≡ true
same_number n m h = grind (arith, nat_tests)

row_fits : (number width : ℕ) (output : Bool) (marks : List Mark) → length marks ≡ width → is_row_of width (row_line number output marks).first (row_line number output marks).rest ≡ true
row_fits number width output [] h = and_from (eqb 0 width && true) (is_value (output_word output)) (and_from (eqb 0 width) true (same_number 0 width h) refl) (a_value output)
row_fits number width output (mark ∷ marks) h =
    let word = map mark_byte (mark ∷ marks) in
    and_from (eqb (length word) width && list_all is_mark word) (is_value (output_word output))
    (and_from (eqb (length word) width) (list_all is_mark word) (same_number (length word) width (length-map (mark ∷ marks) mark_byte ∙ h)) (all_marks (mark ∷ marks))) (a_value output)

-- a `.names` stands above, with so many inputs, and rows of one output character
pub record IsUnder (width : ℕ) (value : Bool) (above : List Line) : Type 0 where
  pub head : Line
  pub is_head : head_above above ≡ Some head
  pub form_is : form_of head.first ≡ form.Names
  pub wide : length head.rest - 1 ≡ width
  pub same : is_mixed (rows_above above) value ≡ false

not_other : (value : Bool) → differ value value ≡ false
not_other true = refl
not_other false = refl

mixed_more : (rows : List Line) (line : Line) (value : Bool) → is_mixed rows value ≡ false → row_value line ≡ value → is_mixed (rows ++ line ∷ []) value ≡ false
mixed_more [] line value h is = ap (λ (b : Bool). differ b value) is ∙ not_other value
mixed_more (row ∷ rows) line value h is = h

module _ (all : List (List ℕ)) (width : ℕ) (value : Bool) where
  row_free : (above : List Line) (line : Line) → form_of line.first ≡ form.Row → is_byte_fault line.first line.rest ≡ false → is_row_of width line.first line.rest ≡ true → row_value line ≡ value
      → IsUnder width value above → IsAbove all above → fault_of above line ≡ None
  row_free above line is byte fits says u a =
      line_free above line form.Row is byte refl refl
      (turned (fits_under (head_above above) line.first line.rest)
      (ap (λ (h : Option Line). fits_under h line.first line.rest) u.is_head ∙ ap (λ (f : Form). fits_form f (length u.head.rest - 1) line.first line.rest) u.form_is ∙ ap (λ (w : ℕ). is_row_of w line.first line.rest) u.wide ∙ fits))
      (ap (is_mixed (rows_above above)) says ∙ u.same) refl refl a.running refl

  above_row : (above : List Line) (line : Line) → form_of line.first ≡ form.Row → IsAbove all above → IsAbove all (line ∷ above)
  above_row above line is a = record {
    names = ap (λ (f : Form). list_all (is_in all) (with_names (names_above above) (names_by f line.rest))) is ∙ a.names;
    apart = ap (λ (f : Form). are_different (with_names (names_above above) (names_by f line.rest))) is ∙ a.apart;
    running = ap (λ (f : Form). is_end_form f || has_end above) is ∙ a.running;
    later = refl;
  }

  under_row : (above : List Line) (line : Line) → form_of line.first ≡ form.Row → row_value line ≡ value → IsUnder width value above → IsUnder width value (line ∷ above)
  under_row above line is says u = record {
    head = u.head;
    is_head = ap (λ (f : Form). cond (is_row_form f) (head_above above) (Some line)) is ∙ u.is_head;
    form_is = u.form_is;
    wide = u.wide;
    same = ap (λ (f : Form). is_mixed (cond (is_row_form f) (rows_above above ++ line ∷ []) []) value) is ∙ mixed_more (rows_above above) line value u.same says;
  }

  -- rows under their `.names` have no fault
  pub rows_pass : (above : List Line) (number : ℕ) (rows : List Row) → list_all (λ (row : Row). eqb (length row.marks) width) rows ≡ true → IsUnder width value above → IsAbove all above → Pass all above (row_lines number value rows)
  rows_pass above number [] h u a = pass_none all above a
  rows_pass above number (row ∷ rows) h u a =
      let parts = and_parts (eqb (length row.marks) width) (list_all (λ (r : Row). eqb (length r.marks) width) rows) h in
      let line = row_line number value row.marks in
      let is = row_form number value row.marks in
      let says = row_says number value row.marks in
      pass_more all above line (row_lines (number + 1) value rows)
      (row_free above line is (row_good number value row.marks) (row_fits number width value row.marks (same_length (length row.marks) parts.0)) says u a)
      (rows_pass (line ∷ above) (number + 1) rows parts.1 (under_row above line is says u) (above_row above line is a))
    where
      same_length : (n : ℕ) → eqb n width ≡ true → n ≡ width
      same_length n k = grind (arith, nat_tests)
