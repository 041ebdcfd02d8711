use Rattle.std.proofs.Common.{◌≡◌, ◌≤◌}
use Rattle.act1_meaning.specs.Extracted.{count_below, is_slave}
use Rattle.act1_extract.proofs.counts.count_slaves.Given as goal

abbrev pub invariant-loop-module : goal.invariant-loop-module
invariant-loop-module l = (l.slaves ≡ count_below (is_slave l.circuit) l.«module») × (l.slaves ≤ l.«module»)
