use Rattle.std.proofs.Common.{take}
use Rattle.act1_fuses.specs.Wires.{links_of}
use Rattle.act1_array.specs.ClassSteps.{AreClasses, IsWhole}
use Rattle.act1_array.proofs.classes.Classes.of_sites.Given as goal

-- the classes are those of the sites so far
abbrev pub invariant-loop-site : goal.invariant-loop-site
invariant-loop-site l = record { whole : IsWhole l.classes; joined : AreClasses (links_of l.device (take l.site-index l.sites)) l.classes.wires.keys l.classes.classes.items }
