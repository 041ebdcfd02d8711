use Rattle.act1_cover.specs.Costs.{IsChoice, cost_in}
use Rattle.act1_cover.proofs.costs.least_choice.Given as goal

-- the least choice among the shapes so far
abbrev pub invariant-loop-number : goal.invariant-loop-number
invariant-loop-number l = IsChoice l.forest (cost_in l.table) l.fork l.number l.best
