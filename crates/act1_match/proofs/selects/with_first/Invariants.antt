use Rattle.std.proofs.Common.{All, take, ◌≡◌}
use Rattle.act1_match.specs.SearchSteps.{ArePins}
use Rattle.act1_match.specs.declared.pins.Pins.{Pins}
use Rattle.act1_match.proofs.selects.with_first.Given as goal

abbrev pub invariant-loop-s1 : goal.invariant-loop-s1
invariant-loop-s1 l = All (λ s1. ¬ ((p : Pins) × (p.s0 ≡ l.s0) × (p.s1 ≡ s1) × ArePins l.table l.inputs l.choices p)) (take l.s1-index l.choices)
