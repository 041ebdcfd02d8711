use Rattle.std.proofs.Common.{refl, ◌≡◌}
use Rattle.std.proofs.lemmas.List.Elements.{All-more}
use Rattle.act1_match.specs.SearchSteps.{IsMultiplexer}
use Rattle.act1_match.specs.declared.pins.Multiplexer.{Multiplexer}
use Rattle.act1_match.proofs.Parts.{none_listed}
use Rattle.act1_match.proofs.multiplexer.multiplexer.Goals as goal

pub loop-select-preserved : goal.loop-select-preserved
loop-select-preserved c =
    All-more (λ select. ¬ ((m : Multiplexer) × (m.select ≡ select) × IsMultiplexer c.args.table c.args.inputs c.args.choices.now m)) c.args.choices.now c.loop-select.select-index _
    c.loop-select-test.true c.loop-select.invariant (λ found. c.in_default.ensures found.0 (found.1, found.2))

pub returns : goal.returns
returns c = λ m h.
    none_listed (λ select. (m : Multiplexer) × (m.select ≡ select) × IsMultiplexer c.args.table c.args.inputs c.args.choices.now m) c.args.choices.now c.loop-select.select-index
    c.loop-select-test.false c.loop-select.invariant m.select h.of.select (m, refl, h)
