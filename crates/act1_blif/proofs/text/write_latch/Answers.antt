use Rattle.std.specs.Fmt.{decimal}
use Rattle.act1_blif.specs.Names.{signal_name}
use Rattle.act1_blif.specs.Text.{control_words}
use Rattle.act1_blif.proofs.LineGrows.{latch_grows}
use Rattle.act1_blif.proofs.text.write_latch.Goals as goal

pub returns : goal.returns
returns c =
    latch_grows c.args.text.now.items (signal_name c.args.blif.now c.args.latch.now.input) c.args.latch.now.name (decimal c.args.latch.now.init) (control_words c.args.blif.now.clock) _ _ _ _ _ _
    c.in_ok-extend_from_slice.ensures.items
    (rw c.signal_name.ensures at c.in_ok-add_word.ensures)
    (rw c.as_bytes.ensures.value at c.in_ok-add_word-2.ensures)
    c.in_ok-add_control.ensures
    (rw c.from.ensures at c.in_ok-add_number.ensures)
    c.in_ok-push.ensures.items
