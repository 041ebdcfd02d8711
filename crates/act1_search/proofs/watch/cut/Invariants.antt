use Rattle.std.proofs.Common.{◌≡◌, ◌≤◌, length, take}
use Rattle.act1_search.proofs.watch.cut.Given as goal

abbrev pub invariant-loop-trail : goal.invariant-loop-trail
invariant-loop-trail l = (l.left ≤ length l.trail.entries) × (l.trail ≡ record l.initial.trail { entries = take (length l.trail.entries) l.initial.trail.entries })

abbrev pub decreases-loop-trail : goal.decreases-loop-trail
decreases-loop-trail l = length l.trail.entries
