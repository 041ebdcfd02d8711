use Rattle.std.proofs.Common.{All, take}
use Rattle.act1_match.specs.SearchSteps.{Agrees}
use Rattle.act1_match.specs.Choice.{value_at}
use Rattle.act1_match.proofs.multiplexer.data_pin.Given as goal

abbrev pub invariant-loop-choice : goal.invariant-loop-choice
invariant-loop-choice l = All (λ choice. ¬ Agrees l.table l.inputs (λ i. value_at i choice)) (take l.choice-index l.choices)
