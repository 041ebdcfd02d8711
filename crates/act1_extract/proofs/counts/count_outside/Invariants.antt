use Rattle.std.proofs.Common.{◌≡◌, ◌≤◌}
use Rattle.act1_meaning.specs.Extracted.{count_below, is_outside}
use Rattle.act1_extract.proofs.counts.count_outside.Given as goal

abbrev pub invariant-loop-module : goal.invariant-loop-module
invariant-loop-module l = (l.outside ≡ count_below (is_outside l.circuit) l.«module») × (l.outside ≤ l.«module»)
