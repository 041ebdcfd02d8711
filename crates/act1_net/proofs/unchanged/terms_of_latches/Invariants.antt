use Rattle.std.proofs.Common.{◌≡◌, map, take}
use Rattle.act1_blif.specs.declared.blif.Latch.{Latch}
use Rattle.act1_net.specs.declared.net.NetTerm.TheVariants as term
use Rattle.act1_net.proofs.unchanged.terms_of_latches.Given as goal

abbrev pub invariant-loop-latch : goal.invariant-loop-latch
invariant-loop-latch l = l.terms ≡ map (λ (latch : Latch). term.Signal latch.input) (take l.latch-index l.latches)
