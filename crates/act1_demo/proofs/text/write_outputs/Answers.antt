use Rattle.std.proofs.Common.{map, codes}
use Rattle.std.specs.List.{range_with_len}
use Rattle.act1_demo.specs.Text.{state_name}
use Rattle.act1_demo.proofs.RangeTexts.{last_grows}
use Rattle.act1_demo.proofs.text.write_outputs.Goals as goal

pub returns : goal.returns
returns c =
    last_grows c.args.text.now.items (codes ".outputs") (map state_name (range_with_len 0 c.args.bits)) (codes "par") _ _ _ _
    c.in_ok-extend_from_slice.ensures.items c.in_ok-add_states.ensures c.in_ok-add_wire.ensures c.in_ok-push.ensures.items
