use Rattle.std.proofs.Common.{refl, ◌≡◌}
use Rattle.std.proofs.lemmas.List.Elements.{All-more}
use Rattle.act1_match.specs.SearchSteps.{ArePins}
use Rattle.act1_match.specs.declared.pins.Pins.{Pins}
use Rattle.act1_match.proofs.Parts.{none_listed}
use Rattle.act1_match.proofs.selects.with_first.Goals as goal

pub loop-s1-preserved : goal.loop-s1-preserved
loop-s1-preserved c =
    All-more (λ s1. ¬ ((p : Pins) × (p.s0 ≡ c.args.s0) × (p.s1 ≡ s1) × ArePins c.args.table c.args.inputs c.args.choices.now p)) c.args.choices.now c.loop-s1.s1-index _
    c.loop-s1-test.true c.loop-s1.invariant (λ found. c.in_default.ensures found.0 (found.1, found.2, found.3))

pub returns : goal.returns
returns c = λ p h.
    none_listed (λ s1. (p : Pins) × (p.s0 ≡ c.args.s0) × (p.s1 ≡ s1) × ArePins c.args.table c.args.inputs c.args.choices.now p) c.args.choices.now c.loop-s1.s1-index
    c.loop-s1-test.false c.loop-s1.invariant p.s1 h.1.s1 (p, h.0, refl, h.1)
