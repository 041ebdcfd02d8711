use Rattle.std.proofs.Common.{◌≡◌, take}
use Rattle.act1_net.proofs.copies.copy_of_latches.Given as goal

abbrev pub invariant-loop-latch : goal.invariant-loop-latch
invariant-loop-latch l = l.copy ≡ take l.latch-index l.latches
