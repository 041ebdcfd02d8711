use Rattle.act1_planned.proofs.LegalPlans.{legal_plans}
use Rattle.act1_planned.proofs.laws.plans_are_legal.Goals as goal

pub returns : goal.returns
returns c = legal_plans
