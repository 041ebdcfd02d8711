-- What is said by the lines above, and by one line more.
use Rattle.std.proofs.Common.{ℕ, ◌≡◌, Bool, true, false, if◌then◌else◌, List, [], ◌∷◌, ◌++◌, length, Option, Some, None, refl, ap, sym, subst, ◌∙◌}
use Rattle.std.proofs.lemmas.List.{append-nil}
use Rattle.act1_bliftext.specs.Lines.{Line}
use Rattle.act1_bliftext.specs.Forms.{form_of, names_in, names_by}
use Rattle.act1_bliftext.specs.Tables.{with_names, AreNumbersOf}
use Rattle.act1_bliftext.specs.Faults.{head_above, rows_above, names_above, has_end, is_row_form}
use Rattle.act1_bliftext.specs.Statements.{Block, Says, AreSaid, block_of, block_with, blocks_above, earlier_blocks, is_said, form_in, numbers_in, SaysRest, marks_in}
use Rattle.act1_bliftext.specs.ReadingSteps.{Stands, OpenSays, Closes, IsNames, AddsSaid, StartIs, IsOpened, is_names_form, takes_rows}
use Rattle.act1_bliftext.specs.declared.form.Form.{Form}
use Rattle.act1_bliftext.specs.declared.form.Form.TheVariants as form
use Rattle.act1_bliftext.specs.declared.open_names.OpenNames.{OpenNames}
use Rattle.act1_bliftext.specs.declared.statement.NumberedStatement.{NumberedStatement}
use Rattle.act1_bliftext.specs.declared.statement.Statement.{Statement}
use Rattle.act1_bliftext.specs.declared.statement.Statement.TheVariants as said
use Rattle.act1_bliftext.proofs.Numbering.{numbers_kept}

-- one block and one statement more
pub said_push : (names : List (List ℕ)) (blocks : List Block) (statements : List NumberedStatement) (block : Block) (numbered : NumberedStatement)
    → AreSaid names blocks statements → Says names block numbered → AreSaid names (blocks ++ block ∷ []) (statements ++ numbered ∷ [])
said_push names [] [] block numbered h s = (s, tt)
said_push names [] (x ∷ statements) block numbered h s = elim h [ ]
said_push names (b ∷ blocks) [] block numbered h s = elim h [ ]
said_push names (b ∷ blocks) (x ∷ statements) block numbered h s = (h.0, said_push names blocks statements block numbered h.1 s)

says_kept : (names more : List (List ℕ)) (block : Block) (numbered : NumberedStatement) → Says names block numbered → Says (with_names names more) block numbered
says_kept names more block numbered s = record {
  line = s.line;
  form = s.form;
  numbers = numbers_kept names more (numbers_in numbered.statement) (names_in block.head) s.numbers;
  beside = s.beside;
}

-- what is said stays said when names are added
pub said_kept : (names more : List (List ℕ)) (blocks : List Block) (statements : List NumberedStatement) → AreSaid names blocks statements → AreSaid (with_names names more) blocks statements
said_kept names more [] [] h = tt
said_kept names more [] (x ∷ statements) h = elim h [ ]
said_kept names more (b ∷ blocks) [] h = elim h [ ]
said_kept names more (b ∷ blocks) (x ∷ statements) h = (says_kept names more b x h.0, said_kept names more blocks statements h.1)

-- a line that is no row begins a block
pub earlier_next : (above : List Line) (line : Line) (f : Form) → form_of line.first ≡ f → is_row_form f ≡ false → earlier_blocks (line ∷ above) ≡ blocks_above above
earlier_next above line f is free = ap (λ (b : Bool). if b then earlier_blocks above else blocks_above above) (ap is_row_form is ∙ free)

pub head_next : (above : List Line) (line : Line) (f : Form) → form_of line.first ≡ f → is_row_form f ≡ false → head_above (line ∷ above) ≡ Some line
head_next above line f is free = ap (λ (b : Bool). if b then head_above above else Some line) (ap is_row_form is ∙ free)

pub rows_next : (above : List Line) (line : Line) (f : Form) → form_of line.first ≡ f → is_row_form f ≡ false → rows_above (line ∷ above) ≡ []
rows_next above line f is free = ap (λ (b : Bool). if b then rows_above above ++ line ∷ [] else []) (ap is_row_form is ∙ free)

pub blocks_next : (above : List Line) (line : Line) (f : Form) → form_of line.first ≡ f → is_row_form f ≡ false
    → blocks_above (line ∷ above) ≡ blocks_above above ++ (if is_said f then block_with line [] ∷ [] else [])
blocks_next above line f is free =
    rw (earlier_next above line f is free, head_next above line f is free, rows_next above line f is free) (ap (λ (g : Form). blocks_above above ++ (if is_said g then block_with line [] ∷ [] else [])) is)

-- the statement of a `.names` says its line and rows
says_names : (names : List (List ℕ)) (head : Line) (rows : List Line) (o : OpenNames) (line : ℕ) (statement : Statement) → OpenSays names head rows o → line ≡ o.line → IsNames o statement
    → Says names (block_with head rows) (record { line = line; statement = statement })
says_names names head rows o line (said.Names inputs output cover) s l h = record {
  line = l ∙ s.line;
  form = s.form;
  numbers = rw (s.form, h.0, h.1) s.numbers;
  beside = (h.2 ∙ ap length (sym h.0), h.3 ∙ s.value, ap marks_in h.4 ∙ s.rows);
}
says_names names head rows o line (said.Inputs ns) s l h = elim h [ ]
says_names names head rows o line (said.Outputs ns) s l h = elim h [ ]
says_names names head rows o line (said.Clock ns) s l h = elim h [ ]
says_names names head rows o line (said.Latch i q c n) s l h = elim h [ ]

-- an open `.names` is the last block
last_block : (above : List Line) (head : Line) → head_above above ≡ Some head → form_of head.first ≡ form.Names → block_of (head_above above) (rows_above above) ≡ block_with head (rows_above above) ∷ []
last_block above head is form = rw (is, form) refl

-- where no row may come any more all blocks are said
pub closes_said : (above : List Line) (names : List (List ℕ)) (old new : List NumberedStatement) (o : Option OpenNames) → Stands above names old o → Closes o old new → AreSaid names (blocks_above above) new
closes_said above names old new None h same = subst (λ (ss : List NumberedStatement). AreSaid names (blocks_above above) ss) (sym same) h.0
closes_said above names old new (Some o) h added =
    let opened = h.1 in
    let says = says_names names opened.head (rows_above above) o added.numbered.line added.numbered.statement opened.says added.line added.says in
    rw (added.pushed, last_block above opened.head opened.is_head opened.says.form) (said_push names (earlier_blocks above) old (block_with opened.head (rows_above above)) added.numbered h.0 says)

-- a line that says nothing
pub stands_quiet : (above : List Line) (line : Line) (f : Form) (old new : List NumberedStatement) (o : Option OpenNames) → form_of line.first ≡ f → is_row_form f ≡ false → is_said f ≡ false → is_names_form f ≡ false
    → AreSaid (names_above above) (blocks_above above) old → new ≡ old → o ≡ None → Stands (line ∷ above) (names_above (line ∷ above)) new o
stands_quiet above line f old new o is free quiet closed h same none =
    let kept = said_kept (names_above above) (names_in line) (blocks_above above) old h in
    let blocks : blocks_above (line ∷ above) ≡ blocks_above above = blocks_next above line f is free ∙ ap (λ (b : Bool). blocks_above above ++ (if b then block_with line [] ∷ [] else [])) quiet ∙ append-nil (blocks_above above) in
    let takes : takes_rows (head_above (line ∷ above)) ≡ false = ap takes_rows (head_next above line f is free) ∙ ap is_names_form is ∙ closed in
    let all : AreSaid (names_above (line ∷ above)) (blocks_above (line ∷ above)) new = rw (same, blocks) kept in
    subst (λ (p : Option OpenNames). Stands (line ∷ above) (names_above (line ∷ above)) new p) (sym none) (all, takes)

-- a line without rows
says_line : (names : List (List ℕ)) (line : Line) (f : Form) (numbered : NumberedStatement) (statement : Statement) → form_of line.first ≡ f → f ≡ form_in statement → is_names_form f ≡ false → StartIs line.rest statement → SaysRest line [] statement
says_line names line f numbered (said.Names inputs output cover) is same free h = let bad : is_names_form f ≡ true = ap is_names_form same in cc
says_line names line f numbered (said.Inputs ns) is same free h = tt
says_line names line f numbered (said.Outputs ns) is same free h = tt
says_line names line f numbered (said.Clock ns) is same free h = tt
says_line names line f numbered (said.Latch i q c n) is same free h = h

-- a line that says something by itself
pub stands_said : (above : List Line) (line : Line) (f : Form) (old new : List NumberedStatement) (o : Option OpenNames) (names : List (List ℕ)) → form_of line.first ≡ f → is_row_form f ≡ false → is_said f ≡ true → is_names_form f ≡ false
    → names ≡ names_above (line ∷ above) → AreSaid (names_above above) (blocks_above above) old → AddsSaid names f line.number line.rest old new → o ≡ None → Stands (line ∷ above) (names_above (line ∷ above)) new o
stands_said above line f old new o names is free yes_said closed known h added none =
    let kept = said_kept (names_above above) (names_in line) (blocks_above above) old h in
    let blocks : blocks_above (line ∷ above) ≡ blocks_above above ++ block_with line [] ∷ [] = blocks_next above line f is free ∙ ap (λ (b : Bool). blocks_above above ++ (if b then block_with line [] ∷ [] else [])) yes_said in
    let takes : takes_rows (head_above (line ∷ above)) ≡ false = ap takes_rows (head_next above line f is free) ∙ ap is_names_form is ∙ closed in
    let says : Says (names_above (line ∷ above)) (block_with line []) added.numbered = record {
      line = added.says.line;
      form = is ∙ added.says.form_is;
      numbers = subst (λ (ns : List (List ℕ)). AreNumbersOf ns (numbers_in added.numbered.statement) (names_in line)) known
          (subst (λ (g : Form). AreNumbersOf names (numbers_in added.numbered.statement) (names_by g line.rest)) (sym is) added.says.numbers);
      beside = says_line names line f added.numbered added.numbered.statement is added.says.form_is closed added.says.start;
    } in
    let all : AreSaid (names_above (line ∷ above)) (blocks_above (line ∷ above)) new = rw (added.pushed, blocks) (said_push (names_above (line ∷ above)) (blocks_above above) old (block_with line []) added.numbered kept says) in
    subst (λ (p : Option OpenNames). Stands (line ∷ above) (names_above (line ∷ above)) new p) (sym none) (all, takes)

-- a `.names`
pub stands_names : (above : List Line) (line : Line) (old new : List NumberedStatement) (o : Option OpenNames) (names : List (List ℕ)) → form_of line.first ≡ form.Names → has_end above ≡ false
    → names ≡ names_above (line ∷ above) → AreSaid (names_above above) (blocks_above above) old → new ≡ old → IsOpened names line.number line.rest o → Stands (line ∷ above) (names_above (line ∷ above)) new o
stands_names above line old new None names is running known h same opened = elim opened [ ]
stands_names above line old new (Some o) names is running known h same opened =
    let kept = said_kept (names_above above) (names_in line) (blocks_above above) old h in
    let earlier = earlier_next above line form.Names is refl in
    let none = rows_next above line form.Names is refl in
    let numbers : AreNumbersOf (names_above (line ∷ above)) (o.inputs ++ o.output ∷ []) line.rest = subst (λ (ns : List (List ℕ)). AreNumbersOf ns (o.inputs ++ o.output ∷ []) line.rest) known opened.numbers in
    let says : OpenSays (names_above (line ∷ above)) line [] o = record { line = opened.line; form = is; numbers = numbers; value = opened.value; rows = ap marks_in opened.rows } in (
      rw (same, earlier) kept,
      record {
        head = line;
        is_head = head_next above line form.Names is refl;
        running = rw is running;
        says = rw none says;
      },
    )
