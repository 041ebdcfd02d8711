use Rattle.act1_search.proofs.Watched.{assuming, learning, tells}
use Rattle.act1_search.proofs.laws.steps_tell_one_fact.Goals as goal

pub returns : goal.returns
returns c = record { tell = tells; «assuming» = assuming; «learning» = learning }
