use Rattle.std.proofs.Common.{◌+◌, cond}
use Rattle.act1_place.specs.Kept.{kept_total}
use Rattle.act1_place.proofs.PassSteps.{Passed}
use Rattle.act1_place.proofs.placing.settle.Given as goal

-- the passes so far, of which the last one may have made no exchange
abbrev pub invariant-loop-changed : goal.invariant-loop-changed
invariant-loop-changed l = Passed l.initial.gains l.gains l.sites l.changed

-- each pass lessens the sum, but for the last
abbrev pub decreases-loop-changed : goal.decreases-loop-changed
decreases-loop-changed l = kept_total l.gains.nets l.gains.spots + cond l.changed 1 0
