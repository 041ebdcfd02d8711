use Rattle.std.proofs.Common.{All, take, ◌≡◌}
use Rattle.act1_match.specs.SearchSteps.{ArePins}
use Rattle.act1_match.specs.declared.pins.Pins.{Pins}
use Rattle.act1_match.proofs.selects.pins_of.Given as goal

abbrev pub invariant-loop-s0 : goal.invariant-loop-s0
invariant-loop-s0 l = All (λ s0. ¬ ((p : Pins) × (p.s0 ≡ s0) × ArePins l.table l.inputs l.choices p)) (take l.s0-index l.choices)
