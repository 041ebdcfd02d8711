use Rattle.act1_channel.proofs.Breaks.{those_between}
use Rattle.act1_channel.proofs.laws.segments_are_those_between.Goals as goal

pub returns : goal.returns
returns c = those_between
