use Rattle.act1_ample.proofs.CalmSearch as laws
use Rattle.act1_ample.proofs.laws.wide_is_calm.Goals as goal

pub returns : goal.returns
returns c = record { calm = laws.wide_is_calm; conflicts = laws.no_conflicts; assigned = laws.wide_is_assigned; has = laws.wide_has_assignment }
