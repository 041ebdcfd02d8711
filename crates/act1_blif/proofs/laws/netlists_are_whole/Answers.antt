use Rattle.act1_blif.proofs.WholeNets.{each_is_whole}
use Rattle.act1_blif.proofs.laws.netlists_are_whole.Goals as goal

pub returns : goal.returns
returns c = each_is_whole
