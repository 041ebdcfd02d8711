use Rattle.std.proofs.Common.{◌≡◌, [], length}
use Rattle.act1_logtext.specs.ReadSteps.{choices_in}
use Rattle.act1_logtext.proofs.step_read.read_choices.Given as goal

-- what is to come decides
abbrev pub invariant-loop-word : goal.invariant-loop-word
invariant-loop-word l = choices_in [] l.initial.words ≡ choices_in l.choices l.words

-- a word fewer is left
abbrev pub decreases-loop-word : goal.decreases-loop-word
decreases-loop-word l = length l.words
