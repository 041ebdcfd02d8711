use Rattle.std.proofs.Common.{List, ◌++◌, sym, ap, ◌∙◌}
use Rattle.std.specs.Option.{option_to_list}
use Rattle.act1_logic.specs.declared.cover.Row.{Row}
use Rattle.act1_net.specs.Gates.{row_left}
use Rattle.act1_net.proofs.ListSteps.{filter_map_read}
use Rattle.act1_net.proofs.left.rows_left.Goals as goal

pub loop-row-preserved : goal.loop-row-preserved
loop-row-preserved c =
    let row = c.row-item.result in
    c.in_ok-add_row.ensures ∙ ap (λ (rows : List Row). rows ++ option_to_list (row_left c.args.terms.now row)) c.loop-row.invariant
    ∙ sym (filter_map_read (row_left c.args.terms.now) c.args.rows.now c.loop-row.row-index row c.loop-row-test.true c.row-item.is)
