use Rattle.std.proofs.Common.{◌≡◌, length}
use Rattle.act1_bliftext.specs.Lines.{before_backslash}
use Rattle.act1_bliftext.proofs.words.before_backslash.Given as goal

-- the front decides
abbrev pub invariant-loop-last : goal.invariant-loop-last
invariant-loop-last l = before_backslash l.front ≡ before_backslash l.line

abbrev pub decreases-loop-last : goal.decreases-loop-last
decreases-loop-last l = length l.front
