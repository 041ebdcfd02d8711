use Rattle.std.proofs.Common.{map}
use Rattle.act1_logic.specs.declared.cover.Row.{Row}
use Rattle.act1_blif.specs.Names.{signal_name}
use Rattle.act1_blif.specs.Text.{row_words}
use Rattle.act1_blif.proofs.LineGrows.{node_grows}
use Rattle.act1_blif.proofs.text.write_node.Goals as goal

pub returns : goal.returns
returns c =
    let node = c.args.node.now in
    node_grows c.args.text.now.items node.name (map (signal_name c.args.blif.now) node.inputs) (map (λ (row : Row). row_words node.cover.output row.marks) node.cover.rows) _ _ _ _ _
    c.in_ok-extend_from_slice.ensures.items
    (rw c.as_slice.ensures at c.in_ok-add_signals.ensures)
    (rw c.as_bytes.ensures.value at c.in_ok-add_word.ensures)
    c.in_ok-push.ensures.items
    (rw c.as_slice-2.ensures at c.in_ok-write_rows.ensures)
