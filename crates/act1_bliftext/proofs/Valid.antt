-- What lines without a fault say keeps the rules for statements.
use Rattle.std.proofs.Common.{ℕ, ◌≡◌, ◌-◌, ◌≤◌, eqb, ltb, leb, cond, Bool, true, false, ◌&&◌, IsTrue, List, [], ◌∷◌, length, map, Option, Some, None, refl, sym, ap, subst, ◌∙◌, arith}
use Rattle.std.specs.Prelude.{slice_get}
use Rattle.std.specs.List.{list_all, list_any}
use Rattle.std.proofs.lemmas.Bool.{and_parts, and_from, le-leb, lt-ltb, eq-eqb}
use Rattle.std.proofs.lemmas.Bool.Decides.{nat_tests}
use Rattle.std.proofs.lemmas.List.Folds.{list_all-append}
use Rattle.std.proofs.lemmas.Option.{slice_get_within}
use Rattle.act1_base.specs.Names.{is_name, are_different}
use Rattle.act1_bliftext.specs.Lines.{Line}
use Rattle.act1_bliftext.specs.Forms.{form_of, names_in, init_value, start_by, latch_start, model_name}
use Rattle.act1_bliftext.specs.Tables.{AreNumbersOf}
use Rattle.act1_bliftext.specs.Faults.{is_bad_word, is_long, fault_of, names_above}
use Rattle.act1_bliftext.specs.Rules.{are_below, is_control, is_statement, is_model, are_statements}
use Rattle.act1_bliftext.specs.Statements.{Block, Say, SaysRest, AreSaid, blocks_above, model_of, model_by, numbers_in, control_number}
use Rattle.act1_bliftext.specs.ReadingSteps.{IsRead, IsClosed}
use Rattle.act1_bliftext.specs.PlaceSteps.{Faultless}
use Rattle.act1_bliftext.specs.declared.form.Form.{Form}
use Rattle.act1_bliftext.specs.declared.form.Form.TheVariants as form
use Rattle.act1_bliftext.specs.declared.reading.Reading.{Reading}
use Rattle.act1_bliftext.specs.declared.statement.NumberedStatement.{NumberedStatement}
use Rattle.act1_bliftext.specs.declared.statement.Statement.{Statement}
use Rattle.act1_bliftext.specs.declared.statement.Statement.TheVariants as said
use Rattle.act1_bliftext.proofs.Blocks.{closes_said}
use Rattle.act1_bliftext.proofs.LineNames.{names_fit, or_parts, words_are_names, no_byte_fault, no_limit_fault}

model_named : (rest : List (List ℕ)) → list_any is_bad_word rest ≡ false → list_any is_long rest ≡ false → is_model (model_name rest) ≡ true
model_named [] h k = refl
model_named (name ∷ rest) h k = (and_parts (is_name name) (list_all is_name rest) (words_are_names (name ∷ rest) h k)).0

model_form : (above : List Line) (line : Line) (f : Form) → form_of line.first ≡ f → fault_of above line ≡ None → is_model (model_by f line.rest) ≡ true
model_form above line form.Model is h =
    let byte = or_parts (is_bad_word line.first) (list_any is_bad_word line.rest) (no_byte_fault above line h) in
    model_named line.rest byte.1 (no_limit_fault above line form.Model is tt h)
model_form above line form.Inputs is h = refl
model_form above line form.Outputs is h = refl
model_form above line form.Clock is h = refl
model_form above line form.Names is h = refl
model_form above line form.Latch is h = refl
model_form above line form.End is h = refl
model_form above line form.Unknown is h = refl
model_form above line form.Row is h = refl

-- the model's name is a name
pub model_fits : (above : List Line) → Faultless above → is_model (model_of above) ≡ true
model_fits [] h = refl
model_fits (line ∷ []) h = model_form [] line (form_of line.first) refl h.0
model_fits (line ∷ next ∷ above) h = model_fits (next ∷ above) h.1

-- numbers of names are below their count
pub numbers_below : (names : List (List ℕ)) (numbers : List ℕ) (words : List (List ℕ)) → AreNumbersOf names numbers words → are_below (length names) numbers ≡ true
numbers_below names [] words h = refl
numbers_below names (n ∷ numbers) [] h = cc
numbers_below names (n ∷ numbers) (w ∷ words) h =
    let first : slice_get names n ≡ Some w = cc in
    let rest : map (slice_get names) numbers ≡ map Some words = cc in
    and_from (ltb n (length names)) (are_below (length names) numbers) (lt-ltb n (length names) (slice_get_within names n w first)) (numbers_below names numbers words rest)

init_step : (init b : ℕ) (low : Bool) → (leb 48 b && leb b 51) ≡ low → cond low (Some (b - 48)) None ≡ Some init → leb init 3 ≡ true
init_step init b true is h =
    let value : b - 48 ≡ init = cc in
    let most : leb b 51 ≡ true = (and_parts (leb 48 b) (leb b 51) is).1 in
    grind (arith, nat_tests)
init_step init b false is h = cc

init_low : (init : ℕ) (word : List ℕ) → init_value word ≡ Some init → leb init 3 ≡ true
init_low init [] h = cc
init_low init (b ∷ []) h = init_step init b (leb 48 b && leb b 51) refl h
init_low init (b ∷ c ∷ word) h = cc

three_low : (init : ℕ) → Some 3 ≡ Some init → leb init 3 ≡ true
three_low init h = let is : 3 ≡ init = cc in subst (λ (n : ℕ). leb n 3 ≡ true) is refl

start_low : (init : ℕ) (words : List (List ℕ)) → start_by words ≡ Some init → leb init 3 ≡ true
start_low init [] h = three_low init h
start_low init (a ∷ []) h = init_low init a h
start_low init (a ∷ b ∷ []) h = three_low init h
start_low init (a ∷ b ∷ c ∷ words) h = init_low init c h

-- an init is one of the four
latch_low : (init : ℕ) (words : List (List ℕ)) → latch_start words ≡ Some init → leb init 3 ≡ true
latch_low init [] h = cc
latch_low init (a ∷ []) h = cc
latch_low init (a ∷ b ∷ words) h = start_low init words h

control_below : (count : ℕ) (control : Option ℕ) → are_below count (control_number control) ≡ true → is_control count control ≡ true
control_below count None h = refl
control_below count (Some c) h = (and_parts (ltb c count) true h).0

statement_fits : (count : ℕ) (head : Line) (rows : List Line) (s : Statement) → are_below count (numbers_in s) ≡ true → SaysRest head rows s → is_statement count s ≡ true
statement_fits count head rows (said.Inputs names) h r = h
statement_fits count head rows (said.Outputs names) h r = h
statement_fits count head rows (said.Clock names) h r = h
statement_fits count head rows (said.Names inputs output cover) h r =
    let each = and_parts (are_below count inputs) (ltb output count && true) (sym (list_all-append (λ n. ltb n count) inputs (output ∷ [])) ∙ h) in
    let last = and_parts (ltb output count) true each.1 in
    and_from (are_below count inputs && ltb output count) (eqb cover.width (length inputs)) (and_from (are_below count inputs) (ltb output count) each.0 last.0) (eq-eqb cover.width (length inputs) r.0)
statement_fits count head rows (said.Latch input output control init) h r =
    let first = and_parts (ltb input count) (ltb output count && are_below count (control_number control)) h in
    let second = and_parts (ltb output count) (are_below count (control_number control)) first.1 in
    and_from (ltb input count && ltb output count && is_control count control) (leb init 3)
    (and_from (ltb input count && ltb output count) (is_control count control) (and_from (ltb input count) (ltb output count) first.0 second.0) (control_below count control second.1))
    (latch_low init head.rest r)

all_fit : (names : List (List ℕ)) (blocks : List Block) (statements : List NumberedStatement) → AreSaid names blocks statements
    → list_all (λ (numbered : NumberedStatement). is_statement (length names) numbered.statement) statements ≡ true
all_fit names [] [] h = refl
all_fit names [] (s ∷ statements) h = elim h [ ]
all_fit names (b ∷ blocks) [] h = elim h [ ]
all_fit names (b ∷ blocks) (s ∷ statements) h =
    and_from (is_statement (length names) s.statement) (list_all (λ (numbered : NumberedStatement). is_statement (length names) numbered.statement) statements)
    (statement_fits (length names) b.head b.rows s.statement (numbers_below names (numbers_in s.statement) (names_in b.head) h.0.numbers) h.0.beside)
    (all_fit names blocks statements h.1)

-- what lines without a fault say keeps the rules
pub says_valid : (above : List Line) (model : Option (List ℕ)) (names : List (List ℕ)) (statements : List NumberedStatement) → Faultless above → Say above model names statements → IsTrue (are_statements model names statements)
says_valid above model names statements f s =
    let known = names_fit above f in
    let fit : list_all is_name names ≡ true = ap (list_all is_name) s.names ∙ known.fit in
    let differ : are_different names ≡ true = ap are_different s.names ∙ known.differ in
    let size : length names ≤ 65535 = subst (λ (ns : List (List ℕ)). length ns ≤ 65535) (sym s.names) known.few in
    let few : leb (length names) 65535 ≡ true = le-leb (length names) 65535 size in
    let named : is_model model ≡ true = ap is_model s.model ∙ model_fits above f in
    and_from (is_model model && list_all is_name names && are_different names && leb (length names) 65535) _
    (and_from (is_model model && list_all is_name names && are_different names) (leb (length names) 65535)
    (and_from (is_model model && list_all is_name names) (are_different names) (and_from (is_model model) (list_all is_name names) named fit) differ) few)
    (all_fit names (blocks_above above) statements s.statements)

-- the reading where no row may come any more has what the lines say
pub closed_says : (above : List Line) (old closed : Reading) (names : List (List ℕ)) (statements : List NumberedStatement) → IsRead above old → IsClosed old closed → names ≡ closed.names → statements ≡ closed.statements
    → Say above closed.model names statements
closed_says above old closed names statements r c known same = record {
  model = c.model ∙ r.model;
  names = known ∙ c.names ∙ r.names;
  statements = rw (known ∙ c.names ∙ r.names, same) (closes_said above (names_above above) old.statements closed.statements old.open_names r.said c.said);
}
