use Rattle.std.proofs.Common.{◌≡◌, take}
use Rattle.act1_cover.proofs.diagram.up_to.Given as goal

abbrev pub invariant-loop-older : goal.invariant-loop-older
invariant-loop-older l = l.branches ≡ take l.older l.diagrams
