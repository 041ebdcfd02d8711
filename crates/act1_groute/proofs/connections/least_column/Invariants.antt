use Rattle.std.proofs.Common.{◌≡◌, ◌∷◌, drop, map}
use Rattle.act1_device.specs.Sites.{column_of}
use Rattle.act1_base.specs.Lists.{least_number}
use Rattle.act1_groute.proofs.connections.least_column.Given as goal

-- the least so far, and the columns to come
abbrev pub invariant-loop-line : goal.invariant-loop-line
invariant-loop-line l = least_number (l.least ∷ map (column_of l.device) (drop l.line-index l.lines)) ≡ least_number (map (column_of l.device) l.lines)
