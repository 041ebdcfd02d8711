-- What further lines add to what is said.
use Rattle.std.proofs.Common.{◌≡◌, cond, Bool, true, false, List, [], ◌∷◌, ◌++◌, Option, Some, refl, sym, ap, subst, ◌∙◌, append_assoc}
use Rattle.std.proofs.lemmas.Bool.{and_parts}
use Rattle.std.proofs.lemmas.List.{append-nil}
use Rattle.act1_bliftext.specs.Lines.{Line, over}
use Rattle.act1_bliftext.specs.Forms.{form_of}
use Rattle.act1_bliftext.specs.Faults.{is_row_form, head_above, rows_above}
use Rattle.act1_bliftext.specs.Statements.{Block, AreSaid, block_of, block_with, blocks_above, earlier_blocks, is_said}
use Rattle.act1_bliftext.specs.Laws.{are_rows, QuietLinesAdd, SaidLinesAdd}
use Rattle.act1_bliftext.specs.declared.form.Form.{Form}
use Rattle.act1_bliftext.specs.declared.form.Form.TheVariants as form
use Rattle.act1_bliftext.proofs.Blocks.{said_push, earlier_next, head_next, rows_next, blocks_next}

-- a line that says something is no row
no_row : (f : Form) → is_said f ≡ true → is_row_form f ≡ false
no_row form.Row h = sym h
no_row form.Model h = refl
no_row form.Inputs h = refl
no_row form.Outputs h = refl
no_row form.Clock h = refl
no_row form.Names h = refl
no_row form.Latch h = refl
no_row form.End h = refl
no_row form.Unknown h = refl

-- rows under the head of the last block
rows_under : (rows above before : List Line) (head : Line) (earlier : List Block) → are_rows rows ≡ true → head_above above ≡ Some head → is_said (form_of head.first) ≡ true → rows_above above ≡ before → earlier_blocks above ≡ earlier
    → blocks_above (over rows above) ≡ earlier ++ block_with head (before ++ rows) ∷ []
rows_under [] above before head earlier rs is says rows blocks =
    ap (λ (bs : List Block). bs ++ block_of (head_above above) (rows_above above)) blocks
    ∙ ap (λ (o : Option Line). earlier ++ block_of o (rows_above above)) is
    ∙ ap (λ (b : Bool). earlier ++ cond b (block_with head (rows_above above) ∷ []) []) says
    ∙ ap (λ (ls : List Line). earlier ++ block_with head ls ∷ []) (rows ∙ sym (append-nil before))
rows_under (row ∷ rows) above before head earlier rs is says so_far blocks =
    let parts = and_parts (is_row_form (form_of row.first)) (are_rows rows) rs in
    rows_under rows (row ∷ above) (before ++ row ∷ []) head earlier parts.1
    (ap (λ (b : Bool). cond b (head_above above) (Some row)) parts.0 ∙ is) says
    (ap (λ (b : Bool). cond b (rows_above above ++ row ∷ []) []) parts.0 ∙ ap (λ (ls : List Line). ls ++ row ∷ []) so_far)
    (ap (λ (b : Bool). cond b (earlier_blocks above) (blocks_above above)) parts.0 ∙ blocks)
    ∙ ap (λ (ls : List Line). earlier ++ block_with head ls ∷ []) (append_assoc before (row ∷ []) rows)

pub said_lines_add : SaidLinesAdd
said_lines_add names above block said numbered says rs h s =
    let line = block.head in
    let f = form_of line.first in
    let free = no_row f says in
    let blocks = rows_under block.rows (line ∷ above) [] line (blocks_above above) rs (head_next above line f refl free) says (rows_next above line f refl free) (earlier_next above line f refl free) in
    subst (λ (bs : List Block). AreSaid names bs (said ++ numbered ∷ [])) (sym blocks) (said_push names (blocks_above above) said block numbered h s)

pub quiet_lines_add : QuietLinesAdd
quiet_lines_add names above line said free quiet h =
    let blocks : blocks_above (line ∷ above) ≡ blocks_above above = blocks_next above line (form_of line.first) refl free ∙ ap (λ (b : Bool). blocks_above above ++ cond b (block_with line [] ∷ []) []) quiet ∙ append-nil (blocks_above above) in
    subst (λ (bs : List Block). AreSaid names bs said) (sym blocks) h
