use Rattle.std.proofs.Common.{◌≡◌, ◌-◌, length}
use Rattle.act1_search.specs.Watching.{IsVisited}
use Rattle.act1_search.proofs.descent.descend.Given as goal

abbrev pub invariant-loop-watch : goal.invariant-loop-watch
invariant-loop-watch l = (l.watch.problem ≡ l.problem) × (l.watch.steps ≡ l.initial.watch.steps) × IsVisited l.problem l.watch.steps l.watch.chosen

abbrev pub decreases-loop-watch : goal.decreases-loop-watch
decreases-loop-watch l = length l.problem.connections - length l.watch.chosen
