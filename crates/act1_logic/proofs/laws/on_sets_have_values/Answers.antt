use Rattle.act1_logic.proofs.OnSets.{on_sets_have_values as they_have}
use Rattle.act1_logic.proofs.laws.on_sets_have_values.Goals as goal

pub returns : goal.returns
returns c = they_have
