use Rattle.act1_meaning.proofs.EveryState.{each_state_is_met as they_are_met}
use Rattle.act1_meaning.proofs.laws.each_state_is_met.Goals as goal

pub returns : goal.returns
returns c = they_are_met c.latch_names_differ.ensures
