use Rattle.act1_blif.proofs.FewPorts.{ports_are_few as the_law}
use Rattle.act1_blif.proofs.laws.ports_are_few.Goals as goal

pub returns : goal.returns
returns c = the_law
