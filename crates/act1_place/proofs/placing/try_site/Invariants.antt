use Rattle.std.proofs.Common.{take}
use Rattle.act1_place.specs.Gains.{Tries, pairs_with}
use Rattle.act1_place.proofs.placing.try_site.Given as goal

-- the pairs so far were tried
abbrev pub invariant-loop-b : goal.invariant-loop-b
invariant-loop-b l = Tries l.initial.gains l.gains l.changed (pairs_with l.a (take l.b-index l.later))
