-- What the lines of a netlist's canonical text say.
use Rattle.std.proofs.Common.{ℕ, suc, ◌≡◌, ◌+◌, cond, Bool, true, false, ◌||◌, List, [], ◌∷◌, ◌++◌, map, Option, Some, refl, sym, ap, subst, ◌∙◌, append_assoc}
use Rattle.std.specs.Prelude.{slice_get}
use Rattle.std.specs.List.{list_all, AllByRecursion}
use Rattle.std.specs.Str.{bytes_eq}
use Rattle.std.proofs.lemmas.Bool.{and_parts, and_from, true≢false}
use Rattle.std.proofs.lemmas.List.{append-nil}
use Rattle.act1_logic.specs.declared.cover.Mark.{Mark}
use Rattle.act1_logic.specs.declared.cover.Mark.TheVariants.{Zero, One, Dash}
use Rattle.act1_logic.specs.declared.cover.Row.{Row}
use Rattle.act1_bliftext.specs.Lines.{Line, over}
use Rattle.act1_bliftext.specs.Forms.{form_of, names_in}
use Rattle.act1_bliftext.specs.Rows.{row_marks, output_of, mark_of}
use Rattle.act1_bliftext.specs.Tables.{AreNumbersOf}
use Rattle.act1_bliftext.specs.Faults.{is_row_form, names_above}
use Rattle.act1_bliftext.specs.Statements.{Says, AreSaid, block_with, blocks_above, is_said, marks_in}
use Rattle.act1_bliftext.specs.declared.statement.NumberedStatement.{NumberedStatement}
use Rattle.act1_bliftext.specs.Laws.{WrittenLinesAreRead, are_rows}
use Rattle.act1_blif.specs.Text.{mark_byte}
use Rattle.act1_blifread.proofs.CanonicalNames.{is_in, same_name, in_kept, in_added}
use Rattle.act1_blifread.proofs.CanonicalFaults.{over_both, row_form, row_line, row_lines, row_says}

-- the first place of a name among others
abbrev pub place_in : List (List ℕ) → List ℕ → ℕ
place_in [] name = 0
place_in (x ∷ names) name = cond (bytes_eq name x) 0 (suc (place_in names name))

-- where the name stands
pub stands_there : (names : List (List ℕ)) (w : List ℕ) → is_in names w ≡ true → slice_get names (place_in names w) ≡ Some w
stands_there [] w h = absurd (true≢false (sym h))
stands_there (x ∷ names) w h = by (bytes_eq w x) refl (λ e. stands_there names w e)
  where
    by : (b : Bool) → bytes_eq w x ≡ b → (is_in names w ≡ true → slice_get names (place_in names w) ≡ Some w) → slice_get (x ∷ names) (place_in (x ∷ names) w) ≡ Some w
    by true e rest = ap (λ (b : Bool). slice_get (x ∷ names) (cond b 0 (suc (place_in names w)))) e ∙ ap (λ (v : List ℕ). Some v) (sym (same_name w x e))
    by false e rest = ap (λ (b : Bool). slice_get (x ∷ names) (cond b 0 (suc (place_in names w)))) e ∙ rest (sym (ap (λ (b : Bool). b || is_in names w) e) ∙ h)

-- the numbers of names are their places
pub numbers_there : (names words : List (List ℕ)) → list_all (is_in names) words ≡ true → AreNumbersOf names (map (place_in names) words) words
numbers_there names [] h = refl
numbers_there names (w ∷ words) h =
    let parts = and_parts (is_in names w) (list_all (is_in names) words) h in
    ap (λ (o : Option (List ℕ)). o ∷ map (slice_get names) (map (place_in names) words)) (stands_there names w parts.0)
    ∙ ap (λ (os : List (Option (List ℕ))). Some w ∷ os) (numbers_there names words parts.1)

-- names above stay above
pub names_stay : (lines above : List Line) (w : List ℕ) → is_in (names_above above) w ≡ true → is_in (names_above (over lines above)) w ≡ true
names_stay [] above w h = h
names_stay (line ∷ lines) above w h = names_stay lines (line ∷ above) w (in_kept (names_in line) (names_above above) w h)

-- all names of a line are among these
abbrev pub HasNames : List (List ℕ) → Line → Type 0
HasNames names line = list_all (is_in names) (names_in line) ≡ true

kept_all : (small large words : List (List ℕ)) → ((w : List ℕ) → is_in small w ≡ true → is_in large w ≡ true) → list_all (is_in small) words ≡ true → list_all (is_in large) words ≡ true
kept_all small large [] more h = refl
kept_all small large (w ∷ words) more h =
    let parts = and_parts (is_in small w) (list_all (is_in small) words) h in
    and_from (is_in large w) (list_all (is_in large) words) (more w parts.0) (kept_all small large words more parts.1)

-- the names of lines are among all
pub has_names : (names : List (List ℕ)) (lines above : List Line) → ((w : List ℕ) → is_in (names_above (over lines above)) w ≡ true → is_in names w ≡ true) → AllByRecursion (HasNames names) lines
has_names names [] above more = tt
has_names names (line ∷ lines) above more =
    (kept_all (names_above (line ∷ above)) names (names_in line) (λ w h. more w (names_stay lines (line ∷ above) w h)) (in_added (names_in line) (names_above above)), has_names names lines (line ∷ above) more)

-- lines add statements to those of the lines above
abbrev pub Adds : List (List ℕ) → List Line → List Line → List NumberedStatement → Type 0
Adds names above lines new = (ss : List NumberedStatement) → AreSaid names (blocks_above above) ss → AreSaid names (blocks_above (over lines above)) (ss ++ new)

pub adds_none : (names : List (List ℕ)) (above : List Line) → Adds names above [] []
adds_none names above ss h = subst (AreSaid names (blocks_above above)) (sym (append-nil ss)) h

pub adds_both : (names : List (List ℕ)) (above lines more : List Line) (new next : List NumberedStatement) → Adds names above lines new → Adds names (over lines above) more next → Adds names above (lines ++ more) (new ++ next)
adds_both names above lines more new next p q ss h =
    subst (λ (ls : List Line). AreSaid names (blocks_above ls) (ss ++ (new ++ next))) (sym (over_both lines more above))
    (subst (AreSaid names (blocks_above (over more (over lines above)))) (append_assoc ss new next) (q (ss ++ new) (p ss h)))

module _ (law : WrittenLinesAreRead) (names : List (List ℕ)) (above : List Line) (line : Line) where
  -- a line that says something, with its rows
  pub adds_block : (rows : List Line) (numbered : NumberedStatement) → is_said (form_of line.first) ≡ true → are_rows rows ≡ true → Says names (block_with line rows) numbered → Adds names above (line ∷ rows) (numbered ∷ [])
  adds_block rows numbered says_it rows_are s ss h = law.said names above (block_with line rows) ss numbered says_it rows_are h s

  -- a line that says nothing of the netlist
  pub adds_nothing : is_row_form (form_of line.first) ≡ false → is_said (form_of line.first) ≡ false → Adds names above (line ∷ []) []
  adds_nothing free quiet ss h = subst (AreSaid names (blocks_above (line ∷ above))) (sym (append-nil ss)) (law.quiet names above line ss free quiet h)

-- the marks of row lines are those of the rows
mark_back : (mark : Mark) → mark_of (mark_byte mark) ≡ mark
mark_back Zero = refl
mark_back One = refl
mark_back Dash = refl

marks_back : (marks : List Mark) → map mark_of (map mark_byte marks) ≡ marks
marks_back [] = refl
marks_back (mark ∷ marks) = ap (λ (m : Mark). m ∷ map mark_of (map mark_byte marks)) (mark_back mark) ∙ ap (λ (ms : List Mark). mark ∷ ms) (marks_back marks)

row_back : (number : ℕ) (output : Bool) (marks : List Mark) → row_marks (row_line number output marks) ≡ marks
row_back number output [] = refl
row_back number output (mark ∷ marks) = marks_back (mark ∷ marks)

pub rows_back : (number : ℕ) (output : Bool) (rows : List Row) → marks_in rows ≡ map row_marks (row_lines number output rows)
rows_back number output [] = refl
rows_back number output (row ∷ rows) =
    ap (λ (ms : List Mark). ms ∷ marks_in rows) (sym (row_back number output row.marks)) ∙ ap (λ (rs : List (List Mark)). row_marks (row_line number output row.marks) ∷ rs) (rows_back (number + 1) output rows)

-- the output of row lines is that of the cover; without rows it is 1
pub output_back : (number : ℕ) (output : Bool) (rows : List Row) → (rows ≡ [] → output ≡ true) → output ≡ output_of (row_lines number output rows)
output_back number output [] h = h refl
output_back number output (row ∷ rows) h = sym (row_says number output row.marks)

pub rows_are : (number : ℕ) (output : Bool) (rows : List Row) → are_rows (row_lines number output rows) ≡ true
rows_are number output [] = refl
rows_are number output (row ∷ rows) =
    let line = row_line number output row.marks in
    and_from (is_row_form (form_of line.first)) (are_rows (row_lines (number + 1) output rows)) (ap is_row_form (row_form number output row.marks)) (rows_are (number + 1) output rows)
