use Rattle.std.proofs.Common.{ℕ, ◌≡◌, List, length, Some, sym, ap, subst, ◌∙◌, arith}
use Rattle.std.proofs.lemmas.Option.{slice_get-get_or}
use Rattle.act1_order.specs.Order.{IsOrder}
use Rattle.act1_blif.specs.Graph.{reads_of}
use Rattle.act1_blif.specs.ValuationSteps.{AreEvaluated}
use Rattle.act1_blif.proofs.Evaluated.{signal_next, all_fit}
use Rattle.act1_blif.proofs.valuation.values.Goals as goal

pub loop-signal-preserved : goal.loop-signal-preserved
loop-signal-preserved c =
    let net = c.args.blif.now in
    let order = c.as_slice-signal-items.result.now in
    let i = c.loop-signal.signal-index in
    let is_order = subst (λ (signals : List ℕ). IsOrder (reads_of net) signals) (sym c.as_slice-signal-items.ensures) c.in_ok-order.ensures in
    signal_next net c.args.state.now c.args.inputs.now order is_order i c.from.result c.loop-signal.values.items c.evaluate.new.values.items
    (slice_get-get_or order i 0 c.loop-signal-test.true ∙ ap (λ (s : ℕ). Some s) (sym c.from.ensures))
    c.loop-signal.invariant
    c.in_ok-evaluate.ensures.given
    c.in_ok-evaluate.ensures.node

pub returns : goal.returns
returns c =
    let net = c.args.blif.now in
    let order = c.as_slice-signal-items.result.now in
    let is_order = subst (λ (signals : List ℕ). IsOrder (reads_of net) signals) (sym c.as_slice-signal-items.ensures) c.in_ok-order.ensures in
    let past = c.loop-signal-test.false in
    let end = c.loop-signal.auto.signal-index-end in
    let whole : c.loop-signal.signal-index ≡ length order = omega arith in
    all_fit net c.args.state.now c.args.inputs.now order is_order c.loop-signal.values.items c.requires.inputs c.requires.state
    (subst (λ (done : ℕ). AreEvaluated net c.args.state.now c.args.inputs.now order done c.loop-signal.values.items) whole c.loop-signal.invariant)
