use Rattle.std.proofs.Common.{refl, ◌≡◌}
use Rattle.std.proofs.lemmas.List.Elements.{All-more}
use Rattle.act1_match.specs.SearchSteps.{ArePins}
use Rattle.act1_match.specs.declared.pins.Pins.{Pins}
use Rattle.act1_match.proofs.Parts.{none_listed}
use Rattle.act1_match.proofs.selects.pins_of.Goals as goal

pub loop-s0-preserved : goal.loop-s0-preserved
loop-s0-preserved c =
    All-more (λ s0. ¬ ((p : Pins) × (p.s0 ≡ s0) × ArePins c.args.table c.args.inputs c.args.choices.now p)) c.args.choices.now c.loop-s0.s0-index _
    c.loop-s0-test.true c.loop-s0.invariant (λ found. c.in_default.ensures found.0 (found.1, found.2))

pub returns : goal.returns
returns c = λ p h.
    none_listed (λ s0. (p : Pins) × (p.s0 ≡ s0) × ArePins c.args.table c.args.inputs c.args.choices.now p) c.args.choices.now c.loop-s0.s0-index
    c.loop-s0-test.false c.loop-s0.invariant p.s0 h.s0 (p, refl, h)
