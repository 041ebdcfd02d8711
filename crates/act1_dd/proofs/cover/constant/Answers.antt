use Rattle.std.proofs.Common.{sym, ◌∙◌}
use Rattle.act1_dd.proofs.Values.{value_zero, value_one}
use Rattle.act1_dd.proofs.cover.constant.Goals as goal

pub returns-then-value : goal.returns-then-value
returns-then-value c = λ forks. (tt, λ x. value_one x forks ∙ sym c.if-value.true)

pub returns-else-value : goal.returns-else-value
returns-else-value c = λ forks. (tt, λ x. value_zero x forks ∙ sym c.if-value.false)
