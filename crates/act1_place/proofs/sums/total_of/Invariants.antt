use Rattle.std.proofs.Common.{◌≡◌, ◌≤◌, ◌*◌, take}
use Rattle.act1_place.specs.Kept.{kept_total}
use Rattle.act1_place.proofs.sums.total_of.Given as goal

-- the sum so far
abbrev pub invariant-loop-net : goal.invariant-loop-net
invariant-loop-net l = record { is : l.total ≡ kept_total (take l.net-index l.nets) l.spots; few : l.total ≤ 65536 * l.net-index }
