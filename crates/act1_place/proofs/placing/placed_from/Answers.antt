use Rattle.std.proofs.Common.{sym, subst, ◌∙◌}
use Rattle.act1_place.specs.Passes.{Leaves}
use Rattle.act1_place.proofs.PlaceSteps.{sites_inside, left_is}
use Rattle.act1_place.proofs.placing.placed_from.Goals as goal

pub settle-requires : goal.settle-requires
settle-requires c = sites_inside c.args.device.now c.args.circuit.now c.args.start.now c.requires.each c.in_ok-gains.gains c.as_slice.result.now c.in_ok-gains.ensures (c.as_slice.ensures.value ∙ c.in_ok-sites.ensures)

pub returns : goal.returns
returns c =
    let left = left_is c.args.device.now c.args.circuit.now c.args.start.now c.requires.each c.in_ok-gains.gains c.settle.new.gains c.as_slice.result.now c.in_ok-gains.ensures (c.as_slice.ensures.value ∙ c.in_ok-sites.ensures) c.settle.ensures in
    subst (Leaves c.args.device.now c.args.circuit.now c.args.start.now) (sym (c.in_ok-from_slice.ensures ∙ c.spots.ensures)) left
