use Rattle.act1_map.proofs.OwnSources.{has_own_sources}
use Rattle.act1_map.proofs.laws.mapped_has_own_sources.Goals as goal

pub returns : goal.returns
returns c = has_own_sources
