use Rattle.std.proofs.Common.{◌≡◌, drop, map, max}
use Rattle.act1_device.specs.Sites.{column_of}
use Rattle.act1_base.specs.Lists.{greatest_number}
use Rattle.act1_groute.proofs.connections.greatest_column.Given as goal

-- the greatest so far, and the columns to come
abbrev pub invariant-loop-line : goal.invariant-loop-line
invariant-loop-line l = max l.greatest (greatest_number (map (column_of l.device) (drop l.line-index l.lines))) ≡ greatest_number (map (column_of l.device) l.lines)
