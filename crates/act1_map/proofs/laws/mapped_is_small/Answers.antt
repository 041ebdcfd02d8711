use Rattle.act1_map.proofs.FewModules.{mapped_is_few}
use Rattle.act1_map.proofs.ReadModules.{mapped_is_read}
use Rattle.act1_map.proofs.laws.mapped_is_small.Goals as goal

pub returns : goal.returns
returns c = record { read = mapped_is_read c.forests_denote.ensures c.each_tile_is_read.ensures; few = mapped_is_few }
