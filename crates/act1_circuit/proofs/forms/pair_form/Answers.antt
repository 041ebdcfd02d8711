use Rattle.std.proofs.lemmas.Result.{err_from_is_err_and}
use Rattle.act1_circuit.proofs.FormFound.{is_form, order_gives, pairs_give}
use Rattle.act1_circuit.proofs.forms.pair_form.Goals as goal

pub returns-in_err-order : goal.returns-in_err-order
returns-in_err-order c =
    let p = err_from_is_err_and c.from_residual-in_err-order.result c.from_residual-in_err-order.ensures.1 in
    rw (p.1, p.2) (order_gives c.args.circuit.now c.in_err-order.field-0.0 c.in_default.ensures c.in_err-order.ensures)

pub returns-in_err-pairs : goal.returns-in_err-pairs
returns-in_err-pairs c =
    let p = err_from_is_err_and c.from_residual-in_err-pairs.result c.from_residual-in_err-pairs.ensures.1 in
    rw (p.1, p.2) (pairs_give c.args.circuit.now c.in_ok-order.order c.in_err-pairs.field-0.0 c.in_default.ensures c.in_ok-order.ensures c.in_err-pairs.ensures)

pub returns : goal.returns
returns c = is_form c.args.circuit.now c.in_ok-pairs.pairs c.in_ok-order.order c.in_default.ensures c.in_ok-order.ensures c.in_ok-pairs.ensures
