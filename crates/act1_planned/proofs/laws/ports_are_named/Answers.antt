use Rattle.act1_planned.proofs.PortNames.{ports_are_named as they_are_named}
use Rattle.act1_planned.proofs.laws.ports_are_named.Goals as goal

pub returns : goal.returns
returns c = they_are_named
