use Rattle.std.proofs.Common.{◌≡◌, map, take}
use Rattle.act1_logtext.specs.StepLines.{choice_given}
use Rattle.act1_logtext.specs.WriteSteps.{with_words}
use Rattle.act1_logtext.proofs.steps.add_choices.Given as goal

-- the words so far
abbrev pub invariant-loop-choice : goal.invariant-loop-choice
invariant-loop-choice l = l.line ≡ with_words l.initial.line (map choice_given (take l.choice-index l.choices))
