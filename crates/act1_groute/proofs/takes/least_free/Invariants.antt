use Rattle.std.proofs.Common.{◌≡◌, take}
use Rattle.std.specs.Prelude.{filter}
use Rattle.act1_groute.specs.Lists.{least_by}
use Rattle.act1_groute.specs.RouteSteps.{column_distance, crosses_both}
use Rattle.act1_groute.proofs.takes.least_free.Given as goal

-- the best of the wires so far
abbrev pub invariant-loop-wire : goal.invariant-loop-wire
invariant-loop-wire l = l.best ≡ least_by (column_distance l.column) (filter (crosses_both l.device l.home l.channel) (take l.wire-index l.free))
