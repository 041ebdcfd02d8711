use Rattle.std.proofs.Common.{◌≡◌, map, take}
use Rattle.act1_blif.specs.declared.blif.Latch.{Latch}
use Rattle.act1_blif.specs.Run.{signal}
use Rattle.act1_demo.proofs.shown.next_state.Given as goal

-- the first latches have their next bits
abbrev pub invariant-loop-latch : goal.invariant-loop-latch
invariant-loop-latch l = l.state.items ≡ map (λ (latch : Latch). signal l.values latch.input) (take l.latch-index l.latch-items)
