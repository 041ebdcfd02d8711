-- A text says one thing.
use Rattle.std.proofs.Common.{ℕ, zero, suc, ◌≡◌, Bool, true, false, not, ◌||◌, IsTrue, List, [], ◌∷◌, ◌++◌, length, map, reverse, Option, Some, None, refl, sym, ap, subst, ◌∙◌}
use Rattle.std.specs.Prelude.{slice_get}
use Rattle.std.specs.List.{list_any}
use Rattle.std.specs.Str.{bytes_eq}
use Rattle.std.proofs.lemmas.Bool.{and_parts, not-true}
use Rattle.std.proofs.lemmas.Slice.Eq.{bytes_eq-Decides}
use mathlib.Core.HLevel.{is_prop→PathP}
use mathlib.Core.Bool.{Bool-set}
use Rattle.act1_base.specs.Names.{are_different}
use Rattle.act1_logic.specs.Rows.{is_cover}
use Rattle.act1_logic.specs.declared.cover.Cover.{Cover}
use Rattle.act1_logic.specs.declared.cover.Mark.{Mark}
use Rattle.act1_logic.specs.declared.cover.Row.{Row}
use Rattle.act1_bliftext.specs.Lines.{Line, text_lines}
use Rattle.act1_bliftext.specs.Forms.{names_in}
use Rattle.act1_bliftext.specs.Tables.{AreNumbersOf}
use Rattle.act1_bliftext.specs.Faults.{names_above}
use Rattle.act1_bliftext.specs.Rules.{are_statements}
use Rattle.act1_bliftext.specs.Statements.{Block, Says, SaysRest, AreSaid, blocks_above, form_in, numbers_in, control_number, marks_in}
use Rattle.act1_bliftext.specs.PlaceSteps.{Faultless}
use Rattle.act1_bliftext.specs.Laws.{NeverBoth, OneReading, OneFault}
use Rattle.act1_bliftext.specs.declared.statement.NumberedStatement.{NumberedStatement}
use Rattle.act1_bliftext.specs.declared.statement.Statement.{Statement}
use Rattle.act1_bliftext.specs.declared.statement.Statement.TheVariants as said
use Rattle.act1_bliftext.specs.declared.statements.Statements.{Statements}
use Rattle.act1_bliftext.proofs.LineNames.{names_fit}
use Rattle.act1_bliftext.proofs.PlaceLemmas.{from_last}
use Rattle.act1_bliftext.proofs.WholeLines.{still_faultless}

pub never_both : NeverBoth
never_both bytes s fault h k = let none = h.faultless in cc

pub one_fault : OneFault
one_fault bytes fault other h k = cc

or_true : (a b : Bool) → b ≡ true → (a || b) ≡ true
or_true true b h = refl
or_true false b h = h

-- a name that stands at a place is among the names
among : (names : List (List ℕ)) (name w : List ℕ) (n : ℕ) → slice_get names n ≡ Some w → name ≡ w → list_any (bytes_eq name) names ≡ true
among [] name w n h e = cc
among (x ∷ names) name w zero h e =
    let same : name ≡ x = cc in
    ap (λ (b : Bool). b || list_any (bytes_eq name) names) ((bytes_eq-Decides name x).1 same)
among (x ∷ names) name w (suc n) h e = or_true (bytes_eq name x) (list_any (bytes_eq name) names) (among names name w n h e)

-- different names have different numbers
one_number : (names : List (List ℕ)) (w : List ℕ) (n m : ℕ) → are_different names ≡ true → slice_get names n ≡ Some w → slice_get names m ≡ Some w → n ≡ m
one_number [] w n m d h k = cc
one_number (x ∷ names) w zero zero d h k = refl
one_number (x ∷ names) w zero (suc m) d h k =
    let apart = and_parts (not (list_any (bytes_eq x) names)) (are_different names) d in
    let first : x ≡ w = cc in
    let is = among names x w m k first in
    let isnt = not-true (list_any (bytes_eq x) names) apart.0 in
    cc
one_number (x ∷ names) w (suc n) zero d h k =
    let apart = and_parts (not (list_any (bytes_eq x) names)) (are_different names) d in
    let first : x ≡ w = cc in
    let is = among names x w n h first in
    let isnt = not-true (list_any (bytes_eq x) names) apart.0 in
    cc
one_number (x ∷ names) w (suc n) (suc m) d h k =
    let apart = and_parts (not (list_any (bytes_eq x) names)) (are_different names) d in
    ap suc (one_number names w n m apart.1 h k)

one_numbers : (names : List (List ℕ)) (words : List (List ℕ)) (ns ms : List ℕ) → are_different names ≡ true → AreNumbersOf names ns words → AreNumbersOf names ms words → ns ≡ ms
one_numbers names [] [] [] d h k = refl
one_numbers names [] (n ∷ ns) ms d h k = cc
one_numbers names [] [] (m ∷ ms) d h k = cc
one_numbers names (w ∷ words) [] ms d h k = cc
one_numbers names (w ∷ words) (n ∷ ns) [] d h k = cc
one_numbers names (w ∷ words) (n ∷ ns) (m ∷ ms) d h k =
    let a : slice_get names n ≡ Some w = cc in
    let b : slice_get names m ≡ Some w = cc in
    let c : map (slice_get names) ns ≡ map Some words = cc in
    let e : map (slice_get names) ms ≡ map Some words = cc in
    let first = one_number names w n m d a b in
    let rest = one_numbers names words ns ms d c e in
    cc

one_rows : (rows others : List Row) → marks_in rows ≡ marks_in others → rows ≡ others
one_rows [] [] h = refl
one_rows [] (r ∷ others) h = cc
one_rows (r ∷ rows) [] h = cc
one_rows (r ∷ rows) (o ∷ others) h =
    let marks : r.marks ≡ o.marks = cc in
    let rest : marks_in rows ≡ marks_in others = cc in
    let first : r ≡ o = ap (λ (ms : List Mark). record { marks = ms }) marks in
    let more = one_rows rows others rest in
    cc

one_cover : (a b : Cover) → a.width ≡ b.width → a.output ≡ b.output → a.rows ≡ b.rows → a ≡ b
one_cover a b width output rows = λ i. record {
  width = width i;
  output = output i;
  rows = rows i;
  valid = is_prop→PathP (λ j. IsTrue (is_cover (width j) (output j) (rows j))) (λ j. Bool-set (is_cover (width j) (output j) (rows j)) true) a.valid b.valid i;
}

last_same : (xs ys : List ℕ) (x y : ℕ) → xs ++ x ∷ [] ≡ ys ++ y ∷ [] → (xs ≡ ys) × (x ≡ y)
last_same [] [] x y h = (refl, cc)
last_same [] (b ∷ []) x y h = absurd (cc)
last_same [] (b ∷ c ∷ ys) x y h = absurd (cc)
last_same (a ∷ []) [] x y h = absurd (cc)
last_same (a ∷ c ∷ xs) [] x y h = absurd (cc)
last_same (a ∷ xs) (b ∷ ys) x y h =
    let rest : xs ++ x ∷ [] ≡ ys ++ y ∷ [] = cc in
    let more = last_same xs ys x y rest in
    let first : a ≡ b = cc in
    let whole = more.0 in
    (cc, more.1)

control_same : (a b : Option ℕ) → control_number a ≡ control_number b → a ≡ b
control_same None None h = refl
control_same None (Some m) h = cc
control_same (Some n) None h = cc
control_same (Some n) (Some m) h = cc

one_statement : (head : Line) (rows : List Line) (s t : Statement) → form_in s ≡ form_in t → numbers_in s ≡ numbers_in t → SaysRest head rows s → SaysRest head rows t → s ≡ t
one_statement head rows (said.Inputs a) (said.Inputs b) f n h k = ap said.Inputs n
one_statement head rows (said.Outputs a) (said.Outputs b) f n h k = ap said.Outputs n
one_statement head rows (said.Clock a) (said.Clock b) f n h k = ap said.Clock n
one_statement head rows (said.Names i o c) (said.Names j p d) f n h k =
    let parts = last_same i j o p n in
    let inputs = parts.0 in
    let output = parts.1 in
    let cover = one_cover c d (h.0 ∙ ap length inputs ∙ sym k.0) (h.1 ∙ sym k.1) (one_rows c.rows d.rows (h.2 ∙ sym k.2)) in
    cc
one_statement head rows (said.Latch i o c v) (said.Latch j p d w) f n h k =
    let input : i ≡ j = cc in
    let output : o ≡ p = cc in
    let rest : control_number c ≡ control_number d = cc in
    let control = control_same c d rest in
    let init : v ≡ w = cc in
    cc
one_statement head rows (said.Inputs a) t f n h k = cc
one_statement head rows (said.Outputs a) t f n h k = cc
one_statement head rows (said.Clock a) t f n h k = cc
one_statement head rows (said.Names i o c) t f n h k = cc
one_statement head rows (said.Latch i o c v) t f n h k = cc

one_numbered : (names : List (List ℕ)) (block : Block) (x y : NumberedStatement) → are_different names ≡ true → Says names block x → Says names block y → x ≡ y
one_numbered names block x y d h k =
    let numbers = one_numbers names (names_in block.head) (numbers_in x.statement) (numbers_in y.statement) d h.numbers k.numbers in
    let statement = one_statement block.head block.rows x.statement y.statement (sym h.form ∙ k.form) numbers h.beside k.beside in
    let line = h.line ∙ sym k.line in
    λ i. record { line = line i; statement = statement i }

one_list : (names : List (List ℕ)) (blocks : List Block) (xs ys : List NumberedStatement) → are_different names ≡ true → AreSaid names blocks xs → AreSaid names blocks ys → xs ≡ ys
one_list names [] [] [] d h k = refl
one_list names [] (x ∷ xs) ys d h k = elim h [ ]
one_list names [] [] (y ∷ ys) d h k = elim k [ ]
one_list names (b ∷ blocks) [] ys d h k = elim h [ ]
one_list names (b ∷ blocks) (x ∷ xs) [] d h k = elim k [ ]
one_list names (b ∷ blocks) (x ∷ xs) (y ∷ ys) d h k =
    let first = one_numbered names b x y d h.0 k.0 in
    let rest = one_list names blocks xs ys d h.1 k.1 in
    cc

one_struct : (s t : Statements) → s.model ≡ t.model → s.names ≡ t.names → s.statements ≡ t.statements → s ≡ t
one_struct s t model names statements = λ i. record {
  model = model i;
  names = names i;
  statements = statements i;
  valid = is_prop→PathP (λ j. IsTrue (are_statements (model j) (names j) (statements j))) (λ j. Bool-set (are_statements (model j) (names j) (statements j)) true) s.valid t.valid i;
}

pub one_reading : OneReading
one_reading bytes s t h k =
    let above : List Line = reverse (text_lines bytes) in
    let clean : Faultless above = subst Faultless (from_last (text_lines bytes)) (still_faultless [] (text_lines bytes) tt h.faultless) in
    let names = names_fit above clean in
    let a = subst (λ (ns : List (List ℕ)). AreSaid ns (blocks_above above) s.statements) h.says.names h.says.statements in
    let b = subst (λ (ns : List (List ℕ)). AreSaid ns (blocks_above above) t.statements) k.says.names k.says.statements in
    one_struct s t (h.says.model ∙ sym k.says.model) (h.says.names ∙ sym k.says.names) (one_list (names_above above) (blocks_above above) s.statements t.statements names.differ a b)
