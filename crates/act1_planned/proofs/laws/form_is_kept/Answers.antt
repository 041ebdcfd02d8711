use Rattle.act1_planned.proofs.OrderForm.{order_keeps_form}
use Rattle.act1_planned.proofs.laws.form_is_kept.Goals as goal

pub returns : goal.returns
returns c = order_keeps_form
