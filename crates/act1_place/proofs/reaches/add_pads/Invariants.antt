use Rattle.std.proofs.Common.{List, ◌++◌, take}
use Rattle.act1_place.specs.Ends.{AreSeen, Element, pad_elements}
use Rattle.act1_place.proofs.reaches.add_pads.Given as goal

-- the pads so far were seen
abbrev pub invariant-loop-pad : goal.invariant-loop-pad
invariant-loop-pad l = (seen : List Element) → AreSeen seen l.fn.ends → AreSeen (seen ++ pad_elements (take l.pad-index l.pads)) l.all
