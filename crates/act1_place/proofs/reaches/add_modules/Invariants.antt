use Rattle.std.proofs.Common.{List, ◌++◌, take}
use Rattle.act1_place.specs.Ends.{AreSeen, Element, module_elements}
use Rattle.act1_place.proofs.reaches.add_modules.Given as goal

-- the modules so far were seen
abbrev pub invariant-loop-module : goal.invariant-loop-module
invariant-loop-module l = (seen : List Element) → AreSeen seen l.fn.ends → AreSeen (seen ++ module_elements l.spots (take l.module-index l.modules)) l.all
