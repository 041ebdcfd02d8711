use Rattle.std.proofs.Common.{List, ℕ, ◌≡◌, ◌≤◌, ◌<◌, ◌-◌, [], length, get_or, ap, sym, subst, ◌∙◌, arith}
use Rattle.std.specs.Prelude.{slice_get, Some}
use Rattle.std.proofs.lemmas.Option.{slice_get-get_or}
use Rattle.act1_logic.specs.declared.cover.Mark.{Mark}
use Rattle.act1_logic.specs.declared.cover.Row.{Row}
use Rattle.act1_cover.specs.Forests.{row_chain}
use Rattle.act1_cover.specs.Stores.{Draws, tree_of}
use Rattle.act1_cover.proofs.Literals.{few_in_row}
use Rattle.act1_cover.proofs.StoreGrows.{chain_step}
use Rattle.act1_cover.proofs.chain.chain.Goals as goal

no_row : Row
no_row = record { marks = [] }

-- the row that is read
row_at : (rows cover_rows : List Row) (at : ℕ) → rows ≡ cover_rows → at ≤ length rows → 0 < at → slice_get cover_rows (at - 1) ≡ Some (get_or rows (at - 1) no_row)
row_at rows cover_rows at e within some = ap (λ (rs : List Row). slice_get rs (at - 1)) (sym e) ∙ slice_get-get_or rows (at - 1) no_row (omega arith)

pub at_row-requires-clause-few : goal.at_row-requires-clause-few
at_row-requires-clause-few c =
    let rows = c.as_slice-rows.result.now in
    let at = row_at rows c.args.cover.now.rows c.loop-at.at c.as_slice-rows.ensures c.loop-at.invariant.within c.loop-at-test.true in
    subst (λ (marks : List Mark). length marks ≤ 64) (sym (c.marks_of.ensures no_row)) (few_in_row c.args.cover.now (c.loop-at.at - 1) (get_or rows (c.loop-at.at - 1) no_row) at)

pub loop-at-preserved : goal.loop-at-preserved
loop-at-preserved c =
    let rows = c.as_slice-rows.result.now in
    let output = c.args.cover.now.output in
    let some = c.loop-at-test.true in
    let within = c.loop-at.invariant.within in
    let old = c.loop-at.store.keys in
    let new = c.at_row.new.store.keys in
    let k = c.loop-at.at - 1 in
    record {
      within = omega arith;
      draws =
          chain_step output rows c.loop-at.at k (get_or rows k no_row) old new c.constant-matched.result c.loop-at.r c.in_ok-r.r (omega arith) (slice_get-get_or rows k no_row (omega arith)) c.constant-matched.ensures.is_ref c.constant-matched.ensures.tree
          c.loop-at.invariant.draws
          (subst (λ (marks : List Mark). Draws old new c.in_ok-r.r (row_chain (tree_of old c.constant-matched.result) (tree_of old c.loop-at.r) 0 marks)) (c.marks_of.ensures no_row) c.in_ok-r.ensures);
    }
