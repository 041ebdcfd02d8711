use Rattle.std.proofs.Common.{refl, ◌∙◌}
use Rattle.act1_net.proofs.SameNets.{same_node}
use Rattle.act1_net.proofs.copies.copy_of_node.Goals as goal

pub returns : goal.returns
returns c = same_node _ c.args.node.now c.in_ok-name.ensures (c.in_ok-inputs.ensures ∙ c.as_slice.ensures) refl refl (c.in_ok-rows.ensures ∙ c.as_slice-2.ensures)
