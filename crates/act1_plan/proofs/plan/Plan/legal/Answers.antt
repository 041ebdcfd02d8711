use Rattle.std.proofs.Common.{◌∙◌}
use Rattle.act1_plan.proofs.LegalFacts.{legal_iff}
use Rattle.act1_plan.proofs.plan.Plan.legal.Goals as goal

pub returns-then-is : goal.returns-then-is
returns-then-is c = legal_iff c.args.device.now c.args.self.now c.is_legal_but.result (c.is.ensures.0 c.if-is.true ∙ c.as_bytes.ensures.value) c.is_legal_but.ensures
