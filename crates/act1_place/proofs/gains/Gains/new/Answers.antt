use Rattle.std.proofs.Common.{List, length, refl, sym, ap, subst, ◌∙◌, arith}
use Rattle.act1_circuit.specs.declared.circuit.Spot.{Spot}
use Rattle.act1_place.specs.Ends.{AreAllEnds}
use Rattle.act1_place.specs.Gains.{AreNets}
use Rattle.act1_place.proofs.GainFacts.{few_nets, new_keeps}
use Rattle.act1_place.proofs.NetFinds.{nets_fit}
use Rattle.act1_place.proofs.gains.Gains.new.Goals as goal

pub touching_of-requires-clause-nets : goal.touching_of-requires-clause-nets
touching_of-requires-clause-nets c =
    let few = few_nets c.args.device.now c.args.circuit.now c.requires.range c.args.spots.now c.requires.each c.in_ok-nets.nets c.in_ok-nets.ensures in
    omega (arith, few, ap length c.as_slice.ensures)

pub all_ends-requires-clause-nets : goal.all_ends-requires-clause-nets
all_ends-requires-clause-nets c =
    subst (AreNets (length c.args.spots.now)) (sym (c.as_slice-2.ensures ∙ c.in_ok-nets.ensures)) (nets_fit c.args.device.now c.args.circuit.now c.requires.range (length c.args.spots.now) c.requires.each)

pub invariant_of-result : goal.invariant_of-result
invariant_of-result c =
    let touched = rw c.as_slice.ensures at c.in_ok-touching.ensures in
    let ends = rw c.as_slice-2.ensures at c.in_ok-ends.ensures in
    let kept_ends = subst (λ (ss : List Spot). AreAllEnds c.in_ok-nets.nets ss c.in_ok-ends.ends) (sym c.in_ok-from_slice.ensures) ends in
    rw (c.nets.view_is, c.touching.view_is)
    (new_keeps c.args.device.now c.args.circuit.now c.requires.range c.args.spots.now c.requires.each c.in_ok-nets.nets c.in_ok-nets.ensures c.in_ok-touching.touching c.in_ok-at.at (length c.args.spots.now) c.in_ok-from_slice.field-0 refl touched c.in_ok-at.ensures c.in_ok-from_slice.ensures, kept_ends)
