use Rattle.std.proofs.Common.{◌≡◌, ◌-◌, drop, length}
use Rattle.act1_meaning.specs.Extracted.{different}
use Rattle.act1_extract.proofs.sources.different.Given as goal

-- from the last to the first
abbrev pub invariant-loop-at : goal.invariant-loop-at
invariant-loop-at l = l.all ≡ different (drop (length l.pins - l.at) l.pins)
