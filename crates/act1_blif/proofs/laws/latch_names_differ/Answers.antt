use Rattle.act1_blif.proofs.LatchNames.{latch_names_differ as the_law}
use Rattle.act1_blif.proofs.laws.latch_names_differ.Goals as goal

pub returns : goal.returns
returns c = the_law
