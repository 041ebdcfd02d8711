use Rattle.std.proofs.Common.{map}
use Rattle.act1_blif.specs.Names.{signal_name}
use Rattle.act1_blif.proofs.LineGrows.{line_grows}
use Rattle.act1_blif.proofs.text.write_signals.Goals as goal

pub returns : goal.returns
returns c =
    line_grows c.args.text.now.items _ _ _ c.args.word.now (map (signal_name c.args.blif.now) c.args.signals.now) c.in_ok-extend_from_slice.ensures.items c.in_ok-add_signals.ensures c.in_ok-push.ensures.items
