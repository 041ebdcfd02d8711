use Rattle.act1_ample.proofs.Answering as laws
use Rattle.act1_ample.proofs.laws.answers_are_sure.Goals as goal

pub returns : goal.returns
returns c = record { assigned = laws.wide_is_answered; enough = laws.enough_is_not_spent }
