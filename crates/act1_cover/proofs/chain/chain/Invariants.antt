use Rattle.std.proofs.Common.{◌≤◌, [], length, drop}
use Rattle.act1_cover.specs.Forests.{chain}
use Rattle.act1_cover.specs.Stores.{Draws}
use Rattle.act1_cover.proofs.chain.chain.Given as goal

-- the chain of the rows from this one on
abbrev pub invariant-loop-at : goal.invariant-loop-at
invariant-loop-at l = record {
  within : l.at ≤ length l.rows;
  draws : Draws [] l.store.keys l.r (chain l.cover.output (drop l.at l.rows));
}

abbrev pub decreases-loop-at : goal.decreases-loop-at
decreases-loop-at l = l.at
