use Rattle.act1_order.specs.SearchSteps.{steps_left}
use Rattle.act1_order.proofs.SearchLemmas.{IsRooted}
use Rattle.act1_order.proofs.search.Search.visit.Given as goal

abbrev pub invariant-loop-vertex : goal.invariant-loop-vertex
invariant-loop-vertex l = IsRooted l.reads l.root l.fn.self l.self

abbrev pub decreases-loop-vertex : goal.decreases-loop-vertex
decreases-loop-vertex l = steps_left l.self
