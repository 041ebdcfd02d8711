use Rattle.std.proofs.Common.{◌≡◌, ◌-◌, length, take}
use Rattle.act1_cover.proofs.chain.listed.Given as goal

abbrev pub invariant-loop-branch : goal.invariant-loop-branch
invariant-loop-branch l = l.branches ≡ take (length l.branches) l.store.keys

abbrev pub decreases-loop-branch : goal.decreases-loop-branch
decreases-loop-branch l = length l.store.keys - length l.branches
