use Rattle.std.proofs.lemmas.Bool.{iff_false}
use Rattle.std.proofs.lemmas.List.Elements.{All-more}
use Rattle.act1_match.specs.Choice.{value_at}
use Rattle.act1_match.specs.SearchSteps.{Agrees}
use Rattle.act1_match.proofs.Parts.{none_listed}
use Rattle.act1_match.proofs.multiplexer.data_pin.Goals as goal

pub loop-choice-preserved : goal.loop-choice-preserved
loop-choice-preserved c =
    All-more (λ choice. ¬ Agrees c.args.table c.args.inputs (λ i. value_at i choice)) c.args.choices.now c.loop-choice.choice-index _
    c.loop-choice-test.true c.loop-choice.invariant (iff_false c.agrees.ensures c.if-agrees.false)

pub returns : goal.returns
returns c = λ choice d.
    none_listed (λ choice. Agrees c.args.table c.args.inputs (λ i. value_at i choice)) c.args.choices.now c.loop-choice.choice-index
    c.loop-choice-test.false c.loop-choice.invariant choice d.listed d.agrees
