use Rattle.std.proofs.Common.{◌+◌, List, Bool, get_or, length, ap, subst, sym, ◌∙◌, arith}
use Rattle.act1_base.proofs.ListGets.{get_read}
use Rattle.act1_circuit.specs.declared.circuit.Start.{Start}
use Rattle.act1_circuit.specs.PairFormSteps.{AreStartedBelow}
use Rattle.act1_circuit.proofs.FormLemmas.{start_low}
use Rattle.act1_circuit.proofs.FormSteps.{all_started, more_started}
use Rattle.act1_circuit.proofs.forms.started_of.Goals as goal

pub loop-start-preserved : goal.loop-start-preserved
loop-start-preserved c =
    let circuit = c.args.circuit.now in
    let k = c.loop-start.start-index in
    let start = c.start-item.result in
    let long = ap (λ (ss : List Start). length ss) c.as_slice-start-items.ensures in
    let low = c.loop-start-test.true in
    let at = get_read circuit.starts k start (omega arith) (c.start-item.is ∙ ap (λ (ss : List Start). get_or ss k start) c.as_slice-start-items.ensures) in
    subst (λ (bs : List Bool). AreStartedBelow circuit (k + 1) bs) (sym c.note_start.ensures) (more_started circuit k start c.loop-start.started.items at (start_low circuit c.requires k start at) c.loop-start.invariant)

pub returns : goal.returns
returns c =
    let high = c.loop-start-test.false in
    let long = ap (λ (ss : List Start). length ss) c.as_slice-start-items.ensures in
    all_started c.args.circuit.now c.loop-start.start-index c.loop-start.started.items (omega arith) c.loop-start.invariant
