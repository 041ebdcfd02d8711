use Rattle.std.proofs.Common.{List, Bool, [], ◌∷◌, ◌++◌, map, sym, ap, ◌∙◌}
use Rattle.std.specs.Prelude.{if◌then◌else◌}
use Rattle.act1_logic.specs.declared.cover.Mark.{Mark}
use Rattle.act1_logic.specs.OnSets.{mark_of}
use Rattle.act1_meaning.specs.Extracted.{module_in}
use Rattle.act1_extract.specs.Parts.{marks_in}
use Rattle.act1_extract.proofs.Steps.{kept_more}
use Rattle.act1_extract.proofs.covers.rows_of.Goals as goal

pub loop-bits-preserved : goal.loop-bits-preserved
loop-bits-preserved c =
    let x = c.bits-item.result in
    let row : List Bool → List (List Mark) = λ ys. if module_in c.args.pins ys then map mark_of ys ∷ [] else [] in
    c.in_ok-add_row.ensures ∙ (λ i. c.loop-bits.invariant i ++ row (c.as_slice.ensures i)) ∙ sym (kept_more (map mark_of) (module_in c.args.pins) c.args.all.now c.loop-bits.bits-index x c.loop-bits-test.true c.bits-item.is)
