use Rattle.std.proofs.Common.{◌≡◌, ◌++◌, drop}
use Rattle.act1_map.specs.MapSteps.{slave_at, starts_from}
use Rattle.act1_map.proofs.mapping.starts_of.Given as goal

-- with those to come these are all
abbrev pub invariant-loop-at : goal.invariant-loop-at
invariant-loop-at l = l.starts ++ starts_from (slave_at l.tiles l.at) (drop l.at l.latches) ≡ starts_from (slave_at l.tiles 0) l.latches
