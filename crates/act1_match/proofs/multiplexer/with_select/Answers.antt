use Rattle.std.proofs.Common.{refl, arith, ◌<◌, ◌^◌, ◌≡◌}
use Rattle.act1_match.specs.SearchSteps.{IsMultiplexer}
use Rattle.act1_match.proofs.Steps.{finds_none, multiplexer_found, no_low, no_high}
use Rattle.act1_match.proofs.multiplexer.with_select.Goals as goal

pub returns-in_err-low : goal.returns-in_err-low
returns-in_err-low c =
    let fits : c.ones_of-ones.result < 2 ^ 64 = omega arith in
    finds_none c.from_residual.result (λ m. (m.select ≡ c.args.select) × IsMultiplexer c.args.table c.args.inputs c.args.choices.now m) c.from_residual.ensures
    (no_low c.args.table c.args.inputs c.ones_of-ones.result c.args.choices.now c.args.select fits c.ones_of-ones.ensures c.in_err-low.ensures)

pub returns-in_err-high : goal.returns-in_err-high
returns-in_err-high c =
    let fits : c.ones_of-ones.result < 2 ^ 64 = omega arith in
    finds_none c.from_residual-in_err-high.result (λ m. (m.select ≡ c.args.select) × IsMultiplexer c.args.table c.args.inputs c.args.choices.now m) c.from_residual-in_err-high.ensures
    (no_high c.args.table c.args.inputs c.ones_of-ones.result c.args.choices.now c.args.select fits c.ones_of-ones.ensures c.in_err-high.ensures)

pub returns : goal.returns
returns c =
    let fits : c.ones_of-ones.result < 2 ^ 64 = omega arith in
    (refl, multiplexer_found c.args.table c.args.inputs c.ones_of-ones.result c.args.choices.now c.args.select fits c.ones_of-ones.ensures c.in_ok-low.low c.in_ok-high.high c.requires.listed c.in_ok-low.ensures c.in_ok-high.ensures)
