use Rattle.std.proofs.Common.{◌≡◌, [], length}
use Rattle.act1_logtext.specs.ReadSteps.{hints_in}
use Rattle.act1_logtext.proofs.step_read.read_hints.Given as goal

-- what is to come decides
abbrev pub invariant-loop-word : goal.invariant-loop-word
invariant-loop-word l = hints_in l.fn.choices [] l.initial.words ≡ hints_in l.fn.choices l.hints.items l.words

-- a word fewer is left
abbrev pub decreases-loop-word : goal.decreases-loop-word
decreases-loop-word l = length l.words
