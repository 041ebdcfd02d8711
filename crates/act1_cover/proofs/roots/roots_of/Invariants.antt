use Rattle.act1_cover.proofs.RootCounts.{AreFirstRoots}
use Rattle.act1_cover.proofs.roots.roots_of.Given as goal

abbrev pub invariant-loop-number : goal.invariant-loop-number
invariant-loop-number l = AreFirstRoots l.forest l.number l.roots.items
