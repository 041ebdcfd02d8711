use Rattle.std.proofs.Common.{◌≡◌, length}
use Rattle.act1_search.specs.Watching.{IsVisited}
use Rattle.act1_search.proofs.course.search.Given as goal

abbrev pub invariant-loop-count : goal.invariant-loop-count
invariant-loop-count l = (l.watch.problem ≡ l.problem) × (length l.watch.steps ≡ l._count) × IsVisited l.problem l.watch.steps l.watch.chosen
