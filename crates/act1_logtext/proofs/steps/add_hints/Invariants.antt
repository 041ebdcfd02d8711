use Rattle.std.proofs.Common.{◌≡◌, map, take}
use Rattle.act1_logtext.specs.StepLines.{hint_given}
use Rattle.act1_logtext.specs.WriteSteps.{with_words}
use Rattle.act1_logtext.proofs.steps.add_hints.Given as goal

-- the words so far
abbrev pub invariant-loop-hint : goal.invariant-loop-hint
invariant-loop-hint l = l.line ≡ with_words l.initial.line (map hint_given (take l.hint-index l.hints))
