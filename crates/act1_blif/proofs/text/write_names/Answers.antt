use Rattle.act1_blif.proofs.LineGrows.{line_grows}
use Rattle.act1_blif.proofs.text.write_names.Goals as goal

pub returns : goal.returns
returns c = line_grows c.args.text.now.items _ _ _ c.args.word.now c.args.names.now c.in_ok-extend_from_slice.ensures.items c.in_ok-add_names.ensures c.in_ok-push.ensures.items
