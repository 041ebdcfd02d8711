use Rattle.act1_place.specs.Gains.{Tries}
use Rattle.act1_place.proofs.PassSteps.{first_pairs}
use Rattle.act1_place.proofs.placing.make_pass.Given as goal

-- the pairs of the sites so far were tried
abbrev pub invariant-loop-at : goal.invariant-loop-at
invariant-loop-at l = Tries l.initial.gains l.gains l.changed (first_pairs l.at l.sites)
