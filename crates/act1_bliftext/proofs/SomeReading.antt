-- Lines without a fault say something.
use Rattle.std.proofs.Common.{ℕ, zero, suc, ◌≡◌, ◌+◌, ◌<◌, ◌≤◌, ◌^◌, eqb, ltb, leb, cond, Bool, true, false, not, ◌&&◌, ◌||◌, List, [], ◌∷◌, ◌++◌, length, map, Option, Some, None, refl, sym, ap, subst, ◌∙◌, arith, length-append, zero-add}
use Rattle.std.specs.Prelude.{slice_get}
use Rattle.std.specs.Option.{is_none, option_or}
use Rattle.std.specs.List.{list_any, list_all}
use Rattle.std.specs.Str.{bytes_eq}
use Rattle.std.proofs.lemmas.Bool.{and_parts, and_from, eq-eqb, le-leb, lt-ltb}
use Rattle.std.proofs.lemmas.Bool.Decides.{nat_tests}
use Rattle.std.proofs.lemmas.List.{length-map, map-append}
use Rattle.std.proofs.lemmas.List.Folds.{list_all-append}
use Rattle.std.proofs.lemmas.List.Sums.{sum_by-append}
use Rattle.std.proofs.lemmas.Slice.Eq.{bytes_eq-Decides}
use Rattle.act1_logic.specs.Rows.{is_cover}
use Rattle.act1_logic.specs.declared.cover.Cover.{Cover}
use Rattle.act1_logic.specs.declared.cover.Row.{Row}
use Rattle.act1_bliftext.specs.Lines.{Line}
use Rattle.act1_bliftext.specs.Forms.{form_of, names_by, names_in, latch_names, latch_control, latch_start, control_names, start_by, is_other_type}
use Rattle.act1_bliftext.specs.Rows.{is_row_of, mark_of, marks_by, row_marks, is_mark, is_value}
use Rattle.act1_bliftext.specs.Tables.{with_name, with_names, AreNumbersOf}
use Rattle.act1_bliftext.specs.Faults.{is_row_form, names_above, fault_of, head_above, fits_under, has_end, are_past_limit}
use Rattle.act1_bliftext.specs.LatchSteps.{latch_fault}
use Rattle.act1_bliftext.specs.Statements.{AreSaid, blocks_above, earlier_blocks, control_number, is_said}
use Rattle.act1_bliftext.specs.ReadingSteps.{Stands, Closes, IsOpen, HasRow, AddsSaid, SaysLine, Opened, IsNoRow, mark_count, open_marks, own_fault, value_after, is_names_form}
use Rattle.act1_bliftext.specs.PlaceSteps.{Faultless}
use Rattle.act1_bliftext.specs.declared.fault.BlifKind.{BlifKind}
use Rattle.act1_bliftext.specs.declared.fault.BlifKind.TheVariants as kind
use Rattle.act1_bliftext.specs.declared.form.Form.{Form}
use Rattle.act1_bliftext.specs.declared.form.Form.TheVariants as form
use Rattle.act1_bliftext.specs.declared.open_names.OpenNames.{OpenNames}
use Rattle.act1_bliftext.specs.declared.statement.NumberedStatement.{NumberedStatement}
use Rattle.act1_bliftext.specs.declared.statement.Statement.TheVariants as said
use Rattle.act1_bliftext.proofs.Blocks.{closes_said, stands_quiet, stands_said, stands_names}
use Rattle.act1_bliftext.proofs.FaultParts.{of_no_row, of_row, parts}
use Rattle.act1_bliftext.proofs.LatchLemmas.{own_latch}
use Rattle.act1_bliftext.proofs.LineNames.{no_byte_fault, no_limit_fault, or_parts, not_true}
use Rattle.act1_bliftext.proofs.Numbering.{number_kept}
use Rattle.act1_bliftext.proofs.TakesForm.{not_after, not_so}
use Rattle.act1_bliftext.proofs.TakesRow.{as_many, none_fits, fits_is, same_names, earlier_same, still_open, value_of_row}

-- a name with its number
abbrev Numbered : List (List ℕ) → List ℕ → Type 0
Numbered names word = (n : ℕ) × (slice_get names n ≡ Some word)

one_later : (x : List ℕ) (names : List (List ℕ)) (word : List ℕ) → Numbered names word → Numbered (x ∷ names) word
one_later x names word (n, h) = (suc n, h)

number_step : (x : List ℕ) (names : List (List ℕ)) (word : List ℕ) (same : Bool) → bytes_eq word x ≡ same → (same || list_any (bytes_eq word) names) ≡ true → (list_any (bytes_eq word) names ≡ true → Numbered names word) → Numbered (x ∷ names) word
number_step x names word true is h rest = (zero, ap Some (sym ((bytes_eq-Decides word x).0 is)))
number_step x names word false is h rest = one_later x names word (rest h)

true_false : false ≡ true → ⊥
true_false h = cc

number_in : (names : List (List ℕ)) (word : List ℕ) → list_any (bytes_eq word) names ≡ true → Numbered names word
number_in [] word h = absurd (true_false h)
number_in (x ∷ names) word h = number_step x names word (bytes_eq word x) refl h (λ k. number_in names word k)

at_last : (names : List (List ℕ)) (word : List ℕ) → Numbered (names ++ word ∷ []) word
at_last [] word = (zero, refl)
at_last (x ∷ names) word = one_later x (names ++ word ∷ []) word (at_last names word)

new_step : (names : List (List ℕ)) (word : List ℕ) (among : Bool) → list_any (bytes_eq word) names ≡ among → Numbered (cond among names (names ++ word ∷ [])) word
new_step names word true is = number_in names word is
new_step names word false is = at_last names word

-- words with their numbers
abbrev AllNumbered : List (List ℕ) → List (List ℕ) → Type 0
AllNumbered names words = (ns : List ℕ) × AreNumbersOf names ns words

numbers_step : (names : List (List ℕ)) (word : List ℕ) (words : List (List ℕ)) → Numbered names word → AllNumbered names words → AllNumbered names (word ∷ words)
numbers_step names word words (n, h) (ns, k) = (n ∷ ns, cc)

kept_number : (names more : List (List ℕ)) (word : List ℕ) → Numbered names word → Numbered (with_names names more) word
kept_number names more word (n, h) = (n, number_kept names more n word h)

-- the names of a line have numbers
numbers_exist : (words names : List (List ℕ)) → AllNumbered (with_names names words) words
numbers_exist [] names = ([], refl)
numbers_exist (word ∷ words) names =
    numbers_step (with_names (with_name names word) words) word words
    (kept_number (with_name names word) words word (new_step names word (list_any (bytes_eq word) names) refl))
    (numbers_exist words (with_name names word))

-- the statements where no row may come any more
abbrev Closed : Option OpenNames → List NumberedStatement → Type 0
Closed o old = (new : List NumberedStatement) × Closes o old new

closed_exists : (o : Option OpenNames) (old : List NumberedStatement) → Closed o old
closed_exists None old = (old, refl)
closed_exists (Some n) old =
    let cover : Cover = record { width = length n.inputs; output = n.value; rows = n.rows; valid = n.valid } in
    let numbered : NumberedStatement = record { line = n.line; statement = said.Names n.inputs n.output cover } in
    (old ++ numbered ∷ [], record { numbered = numbered; line = refl; says = (refl, refl, refl, refl, refl); pushed = refl })

-- the bytes of the first words of lines
abbrev pub first_bytes : List Line → ℕ
first_bytes [] = 0
first_bytes (line ∷ lines) = length line.first + first_bytes lines

-- statements so far that say what the lines say
pub record Reached (above : List Line) : Type 0 where
  pub statements : List NumberedStatement
  pub opened : Option OpenNames
  pub stands : Stands above (names_above above) statements opened
  pub few : open_marks opened ≤ first_bytes above

quiet : (above : List Line) (line : Line) (f : Form) (old : List NumberedStatement) → AreSaid (names_above above) (blocks_above above) old → Stands (line ∷ above) (names_above (line ∷ above)) old None → Reached (line ∷ above)
quiet above line f old h s = record { statements = old; opened = None; stands = s; few = omega arith }

-- a line of ports
port : (above : List Line) (line : Line) (old new : List NumberedStatement) (f : Form) → Stands (line ∷ above) (names_above (line ∷ above)) new None → Reached (line ∷ above)
port above line old new f s = record { statements = new; opened = None; stands = s; few = omega arith }

-- numbers of the names of a line of this form
form_numbers : (above : List Line) (line : Line) (f : Form) → form_of line.first ≡ f → AllNumbered (names_above (line ∷ above)) (names_by f line.rest)
form_numbers above line f is =
    subst (λ (g : Form). AllNumbered (names_above (line ∷ above)) (names_by g line.rest)) is (numbers_exist (names_in line) (names_above above))

two_or_three : (names : List (List ℕ)) (input output : List ℕ) (rest : List (List ℕ)) (ns : List ℕ) → AreNumbersOf names ns (input ∷ output ∷ rest) → length rest ≤ 1
    → (a : ℕ) × (b : ℕ) × (c : Option ℕ) × (ns ≡ a ∷ b ∷ control_number c)
two_or_three names input output rest [] h few = absurd (omega (arith, as_many names [] (input ∷ output ∷ rest) h))
two_or_three names input output rest (a ∷ []) h few = absurd (omega (arith, as_many names (a ∷ []) (input ∷ output ∷ rest) h))
two_or_three names input output rest (a ∷ b ∷ []) h few = (a, b, None, refl)
two_or_three names input output rest (a ∷ b ∷ c ∷ []) h few = (a, b, Some c, refl)
two_or_three names input output rest (a ∷ b ∷ c ∷ d ∷ ns) h few = absurd (omega (arith, as_many names (a ∷ b ∷ c ∷ d ∷ ns) (input ∷ output ∷ rest) h))

cond_few : (b : Bool) (control : List ℕ) → length (cond b [] (control ∷ [])) ≤ 1
cond_few true control = omega arith
cond_few false control = omega arith

control_few : (control : List ℕ) → length (control_names control) ≤ 1
unfolding control_names
control_few control = cond_few _ control

one_control : (words : List (List ℕ)) → length (latch_control words) ≤ 1
one_control [] = omega arith
one_control (a ∷ []) = omega arith
one_control (a ∷ b ∷ words) = control_few b

last_step : (x : ℕ) (xs : List ℕ) → (ys : List ℕ) × (y : ℕ) × (xs ≡ ys ++ y ∷ []) → (ys : List ℕ) × (y : ℕ) × (x ∷ xs ≡ ys ++ y ∷ [])
last_step x xs (ys, y, is) = (x ∷ ys, y, ap (λ (zs : List ℕ). x ∷ zs) is)

-- a list that isn't empty has a last element
last_of : (x : ℕ) (xs : List ℕ) → (ys : List ℕ) × (y : ℕ) × (x ∷ xs ≡ ys ++ y ∷ [])
last_of x [] = ([], x, refl)
last_of x (y ∷ xs) = last_step x (y ∷ xs) (last_of y xs)

some_none : {k : BlifKind} → Some k ≡ None → ⊥
some_none h = cc

behind : (b : Bool) (k : BlifKind) (rest : Option BlifKind) → cond b (Some k) rest ≡ None → rest ≡ None
behind true k rest h = cc
behind false k rest h = h

equal : (n m : ℕ) → eqb n m ≡ true → n ≡ m
equal n m h = grind (arith, nat_tests)

count_more : (rows : List Row) (row : Row) → mark_count (rows ++ row ∷ []) ≡ mark_count rows + length row.marks
count_more rows row = sum_by-append (λ (r : Row). length r.marks) rows (row ∷ []) ∙ ap (λ (n : ℕ). mark_count rows + n) (zero-add (length row.marks))

some_row : (more : Bool) (rows : List Row) (row : Row) → (more || ltb 0 (length (rows ++ row ∷ []))) ≡ true
some_row true rows row = refl
some_row false rows row = lt-ltb 0 (length (rows ++ row ∷ [])) (omega (arith, length-append rows (row ∷ [])))

none_first : (own place : Option BlifKind) → option_or own place ≡ None → own ≡ None
none_first None place h = refl
none_first (Some k) place h = cc

-- a line without a fault, which is no row, has none by itself
no_own_fault : (above : List Line) (line : Line) (f : Form) → form_of line.first ≡ f → IsNoRow f → fault_of above line ≡ None → own_fault f line.rest ≡ None
no_own_fault above line f is free h = none_first (own_fault f line.rest) _ (sym (of_no_row above line f is free (no_byte_fault above line h)) ∙ h)

-- statements that say the lines above, where no row may come any more
abbrev SaidAbove : List Line → Type 0
SaidAbove above = (statements : List NumberedStatement) × AreSaid (names_above above) (blocks_above above) statements

said_above : (above : List Line) (r : Reached above) → SaidAbove above
said_above above r =
    let c = closed_exists r.opened r.statements in
    (c.0, closes_said above (names_above above) r.statements c.0 r.opened r.stands c.1)

says_nothing : (above : List Line) (line : Line) (f : Form) → form_of line.first ≡ f → is_row_form f ≡ false → is_said f ≡ false → is_names_form f ≡ false → SaidAbove above → Reached (line ∷ above)
says_nothing above line f is free still closed (old, h) = quiet above line f old h (stands_quiet above line f old old None is free still closed h refl refl)

says_one : (above : List Line) (line : Line) (f : Form) (numbered : NumberedStatement) → form_of line.first ≡ f → is_row_form f ≡ false → is_said f ≡ true → is_names_form f ≡ false
    → SaysLine (names_above (line ∷ above)) f line.number line.rest numbered → SaidAbove above → Reached (line ∷ above)
says_one above line f numbered is free tells closed says (old, h) =
    let names = names_above (line ∷ above) in
    let added : AddsSaid names f line.number line.rest old (old ++ numbered ∷ []) = record { numbered = numbered; says = says; pushed = refl } in
    port above line old (old ++ numbered ∷ []) f (stands_said above line f old (old ++ numbered ∷ []) None names is free tells closed refl h added refl)

-- the init and the places of a latch's numbers
record LatchParts (rest : List (List ℕ)) : Type 0 where
  init : ℕ
  start : latch_start rest ≡ Some init
  places : (names : List (List ℕ)) (ns : List ℕ) → AreNumbersOf names ns (latch_names rest) → (a : ℕ) × (b : ℕ) × (c : Option ℕ) × (ns ≡ a ∷ b ∷ control_number c)

some_init : (o : Option ℕ) → is_none o ≡ false → (n : ℕ) × (o ≡ Some n)
some_init None h = absurd (true_false (sym h))
some_init (Some n) h = (n, refl)

latch_parts : (rest : List (List ℕ)) → own_fault form.Latch rest ≡ None → LatchParts rest
latch_parts [] h = absurd (some_none h)
latch_parts (a ∷ []) h = absurd (some_none h)
latch_parts (a ∷ b ∷ more) h =
    let whole : latch_fault more ≡ None = sym (own_latch a b more) ∙ h in
    let second = behind (ltb 3 (length more)) kind.Shape _ whole in
    let third = behind (is_other_type more) kind.LatchKind _ second in
    let found = some_init (start_by more) (not_so (is_none (start_by more)) kind.Init None third) in
    record { init = found.0; start = found.1; places = λ names ns k. two_or_three names a b (latch_control more) ns k (one_control more) }

says_latch : (above : List Line) (line : Line) → form_of line.first ≡ form.Latch → LatchParts line.rest → AllNumbered (names_above (line ∷ above)) (latch_names line.rest) → SaidAbove above → Reached (line ∷ above)
says_latch above line is parts (ns, h) old =
    let places = parts.places (names_above (line ∷ above)) ns h in
    let numbered : NumberedStatement = record { line = line.number; statement = said.Latch places.0 places.1 places.2 parts.init } in
    says_one above line form.Latch numbered is refl refl refl
    (record { line = refl; form_is = refl; numbers = subst (λ (ms : List ℕ). AreNumbersOf (names_above (line ∷ above)) ms (latch_names line.rest)) places.3 h; start = parts.start }) old

-- a `.names` that is opened
opens : (above : List Line) (line : Line) (ns : List ℕ) → form_of line.first ≡ form.Names → has_end above ≡ false → AreNumbersOf (names_above (line ∷ above)) ns line.rest → 1 ≤ length ns → length ns ≤ 65 → SaidAbove above → Reached (line ∷ above)
opens above line [] is running h some few old = absurd (omega arith)
opens above line (x ∷ xs) is running h some few (old, s) =
    let last = last_of x xs in
    let inputs = last.0 in
    let output = last.1 in
    let low : length inputs ≤ 64 = omega (arith, ap length last.2, length-append inputs (output ∷ [])) in
    let narrow : leb (length inputs) 64 ≡ true = le-leb (length inputs) 64 low in
    let valid : is_cover (length inputs) true [] ≡ true = rw narrow refl in
    let n : OpenNames = record { line = line.number; inputs = inputs; output = output; value = true; rows = []; valid = valid } in
    let names = names_above (line ∷ above) in
    let numbers : AreNumbersOf names (inputs ++ output ∷ []) line.rest = subst (λ (ms : List ℕ). AreNumbersOf names ms line.rest) last.2 h in
    let opened : Opened names line.number line.rest n = record { line = refl; numbers = numbers; value = refl; rows = refl } in
    record {
      statements = old;
      opened = Some n;
      stands = stands_names above line old old (Some n) names is running refl s refl opened;
      few = omega arith;
    }

not_short : (n : ℕ) → ltb n 1 ≡ false → 1 ≤ n
not_short n h = grind (arith, nat_tests)

not_long : (n : ℕ) → ltb 65 n ≡ false → n ≤ 65
not_long n h = grind (arith, nat_tests)

says_names : (above : List Line) (line : Line) → form_of line.first ≡ form.Names → fault_of above line ≡ None → AllNumbered (names_above (line ∷ above)) line.rest → SaidAbove above → Reached (line ∷ above)
says_names above line is h (ns, k) old =
    let whole : parts above form.Names line ≡ None = sym (of_no_row above line form.Names is tt (no_byte_fault above line h)) ∙ h in
    let running : has_end above ≡ false = not_after above line form.Names whole in
    let some = not_short (length line.rest) (not_so (ltb (length line.rest) 1) kind.Shape None (no_own_fault above line form.Names is tt h)) in
    let few = not_long (length line.rest) (or_parts (ltb 65 (length line.rest)) (are_past_limit (names_above above) line.rest) (no_limit_fault above line form.Names is tt h)).0 in
    let many = as_many (names_above (line ∷ above)) ns line.rest k in
    opens above line ns is running k (omega (arith, many, some)) (omega (arith, many, few)) old

-- a row of a `.names` has its width
row_width : (width : ℕ) (first : List ℕ) (rest : List (List ℕ)) → is_row_of width first rest ≡ true → length (map mark_of (marks_by first rest)) ≡ width
row_width width first [] h =
    let parts = and_parts (eqb 0 width && true) (is_value first) h in
    let same = and_parts (eqb 0 width) true parts.0 in
    grind (arith, nat_tests)
row_width width first (value ∷ []) h =
    let parts = and_parts (eqb (length first) width && list_all is_mark first) (is_value value) h in
    let same = (and_parts (eqb (length first) width) (list_all is_mark first) parts.0).0 in
    length-map first mark_of ∙ equal (length first) width same
row_width width first (value ∷ more ∷ rest) h = absurd (true_false h)

-- a row has no more marks than its first word has bytes
row_bytes : (first : List ℕ) (rest : List (List ℕ)) → length (map mark_of (marks_by first rest)) ≤ length first
row_bytes first [] = omega arith
row_bytes first (value ∷ rest) = omega (arith, length-map first mark_of)

-- rows with one more keep the rules for covers
longer_cover : (width : ℕ) (value more : Bool) (rows : List Row) (row : Row) → is_cover width value rows ≡ true → length row.marks ≡ width → mark_count rows + length row.marks < 2 ^ 32 → is_cover width more (rows ++ row ∷ []) ≡ true
longer_cover width value more rows row h same few =
    let all = and_parts (leb width 64 && list_all (λ (r : Row). eqb (length r.marks) width) rows && ltb (mark_count rows) (2 ^ 32)) (value || ltb 0 (length rows)) h in
    let two = and_parts (leb width 64 && list_all (λ (r : Row). eqb (length r.marks) width) rows) (ltb (mark_count rows) (2 ^ 32)) all.0 in
    let each = and_parts (leb width 64) (list_all (λ (r : Row). eqb (length r.marks) width) rows) two.0 in
    let last : (eqb (length row.marks) width && true) ≡ true = and_from (eqb (length row.marks) width) true (eq-eqb (length row.marks) width same) refl in
    let wide : list_all (λ (r : Row). eqb (length r.marks) width) (rows ++ row ∷ []) ≡ true =
    list_all-append (λ (r : Row). eqb (length r.marks) width) rows (row ∷ []) ∙ and_from (list_all (λ (r : Row). eqb (length r.marks) width) rows) (eqb (length row.marks) width && true) each.1 last in
    let count : mark_count (rows ++ row ∷ []) ≡ mark_count rows + length row.marks = count_more rows row in
    let sum : ltb (mark_count (rows ++ row ∷ [])) (2 ^ 32) ≡ true = lt-ltb (mark_count (rows ++ row ∷ [])) (2 ^ 32) (omega (arith, count, few)) in
    and_from (leb width 64 && list_all (λ (r : Row). eqb (length r.marks) width) (rows ++ row ∷ []) && ltb (mark_count (rows ++ row ∷ [])) (2 ^ 32)) (more || ltb 0 (length (rows ++ row ∷ [])))
    (and_from (leb width 64 && list_all (λ (r : Row). eqb (length r.marks) width) (rows ++ row ∷ [])) (ltb (mark_count (rows ++ row ∷ [])) (2 ^ 32))
    (and_from (leb width 64) (list_all (λ (r : Row). eqb (length r.marks) width) (rows ++ row ∷ [])) each.0 wide) sum) (some_row more rows row)

row_under_open : (above : List Line) (line : Line) (old : List NumberedStatement) (n : OpenNames) → form_of line.first ≡ form.Row → fault_of above line ≡ None → mark_count n.rows + length line.first < 2 ^ 32 → mark_count n.rows ≤ first_bytes above
    → AreSaid (names_above above) (earlier_blocks above) old → IsOpen above (names_above above) n → Reached (line ∷ above)
row_under_open above line old n is h room few s o =
    let byte = no_byte_fault above line h in
    let whole = sym (of_row above line is byte) ∙ h in
    let fits : fits_under (head_above above) line.first line.rest ≡ true = not_true (fits_under (head_above above) line.first line.rest) (not_so (not (fits_under (head_above above) line.first line.rest)) kind.Row _ whole) in
    let row_fits : is_row_of (length n.inputs) line.first line.rest ≡ true = sym (fits_is above (names_above above) n line.first line.rest o) ∙ fits in
    let row : Row = record { marks = row_marks line } in
    let same = row_width (length n.inputs) line.first line.rest row_fits in
    let low = row_bytes line.first line.rest in
    let value = value_after n.rows n.value (value_of_row line) in
    let now : OpenNames = record { line = n.line; inputs = n.inputs; output = n.output; value = value; rows = n.rows ++ row ∷ []; valid = longer_cover (length n.inputs) n.value value n.rows row n.valid same (omega (arith, room, low)) } in
    let count : mark_count (n.rows ++ row ∷ []) ≡ mark_count n.rows + length (row_marks line) = count_more n.rows row in
    let has : HasRow n (row_marks line) (value_of_row line) now = record { line = refl; inputs = refl; output = refl; value = refl; rows = map-append (λ (r : Row). r.marks) n.rows (row ∷ []); count = count } in
    record {
      statements = old;
      opened = Some now;
      stands = (rw (same_names above line is byte, earlier_same above line is byte) s, still_open above line is byte n now o has);
      few = omega (arith, count, few, low);
    }

says_row : (above : List Line) (line : Line) (old : List NumberedStatement) (p : Option OpenNames) → form_of line.first ≡ form.Row → fault_of above line ≡ None → first_bytes (line ∷ above) < 2 ^ 32 → open_marks p ≤ first_bytes above
    → Stands above (names_above above) old p → Reached (line ∷ above)
says_row above line old None is h room few s =
    let byte = no_byte_fault above line h in
    let whole = sym (of_row above line is byte) ∙ h in
    let fails = not_so (not (fits_under (head_above above) line.first line.rest)) kind.Row _ whole in
    let none = none_fits (head_above above) line.first line.rest s.1 in
    absurd (cc)
says_row above line old (Some n) is h room few s = row_under_open above line old n is h (omega (arith, few, room)) few s.0 s.1

-- one line more
reach : (above : List Line) (line : Line) (f : Form) → form_of line.first ≡ f → fault_of above line ≡ None → first_bytes (line ∷ above) < 2 ^ 32 → Reached above → Reached (line ∷ above)
reach above line form.Model is h room r = says_nothing above line form.Model is refl refl refl (said_above above r)
reach above line form.Inputs is h room r =
    let ns = form_numbers above line form.Inputs is in
    says_one above line form.Inputs (record { line = line.number; statement = said.Inputs ns.0 }) is refl refl refl (record { line = refl; form_is = refl; numbers = ns.1; start = tt }) (said_above above r)
reach above line form.Outputs is h room r =
    let ns = form_numbers above line form.Outputs is in
    says_one above line form.Outputs (record { line = line.number; statement = said.Outputs ns.0 }) is refl refl refl (record { line = refl; form_is = refl; numbers = ns.1; start = tt }) (said_above above r)
reach above line form.Clock is h room r =
    let ns = form_numbers above line form.Clock is in
    says_one above line form.Clock (record { line = line.number; statement = said.Clock ns.0 }) is refl refl refl (record { line = refl; form_is = refl; numbers = ns.1; start = tt }) (said_above above r)
reach above line form.Names is h room r = says_names above line is h (form_numbers above line form.Names is) (said_above above r)
reach above line form.Latch is h room r = says_latch above line is (latch_parts line.rest (no_own_fault above line form.Latch is tt h)) (form_numbers above line form.Latch is) (said_above above r)
reach above line form.End is h room r = says_nothing above line form.End is refl refl refl (said_above above r)
reach above line form.Unknown is h room r = says_nothing above line form.Unknown is refl refl refl (said_above above r)
reach above line form.Row is h room r = says_row above line r.statements r.opened is h room r.few r.stands

-- lines without a fault say something
pub reached : (above : List Line) → Faultless above → first_bytes above < 2 ^ 32 → Reached above
reached [] h room = record { statements = []; opened = None; stands = (tt, refl); few = omega arith }
reached (line ∷ above) h room = reach above line (form_of line.first) refl h.0 room (reached above h.1 (omega arith))

pub some_said : (above : List Line) → Reached above → (statements : List NumberedStatement) × AreSaid (names_above above) (blocks_above above) statements
some_said above r = said_above above r
