use Rattle.std.proofs.Common.{◌≤◌, length, drop}
use Rattle.act1_cover.specs.Forests.{row_chain}
use Rattle.act1_cover.specs.Stores.{tree_of, Draws}
use Rattle.act1_cover.proofs.chain.at_row.Given as goal

-- the chain of the marks from this one on
abbrev pub invariant-loop-var : goal.invariant-loop-var
invariant-loop-var l = record {
  within : l.var ≤ length l.marks;
  draws : Draws l.initial.store.keys l.store.keys l.r (row_chain (tree_of l.initial.store.keys l.fn.matched) (tree_of l.initial.store.keys l.next) l.var (drop l.var l.marks));
}

abbrev pub decreases-loop-var : goal.decreases-loop-var
decreases-loop-var l = l.var
