use Rattle.std.proofs.Common.{ℕ, List, subst, ◌∙◌}
use Rattle.act1_blifread.specs.Text.{BlifText}
use Rattle.act1_top.proofs.demo_command.demo_net.Goals as goal

pub returns-clause-is : goal.returns-clause-is
returns-clause-is c = subst (λ (text : List ℕ). BlifText text c.in-Ok.net) (c.deref.ensures.value ∙ c.in_ok-text.ensures) c.in-Ok.ensures.read
