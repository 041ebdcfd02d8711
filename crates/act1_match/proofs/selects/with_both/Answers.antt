use Rattle.std.proofs.Common.{refl, arith, ◌<◌, ◌^◌, ◌≡◌}
use Rattle.act1_match.specs.SearchSteps.{ArePins}
use Rattle.act1_match.proofs.Steps.{finds_none, pins_found, no_a, no_b}
use Rattle.act1_match.proofs.selects.with_both.Goals as goal

pub returns-in_err-a : goal.returns-in_err-a
returns-in_err-a c =
    let x_fits : c.ones_of.result < 2 ^ 64 = omega arith in
    let y_fits : c.ones_of-2.result < 2 ^ 64 = omega arith in
    finds_none c.from_residual.result (λ p. (p.s0 ≡ c.args.s0) × (p.s1 ≡ c.args.s1) × ArePins c.args.table c.args.inputs c.args.choices.now p) c.from_residual.ensures
    (no_a c.args.table c.args.inputs c.ones_of.result c.ones_of-2.result c.args.choices.now c.args.s0 c.args.s1 x_fits y_fits c.ones_of.ensures c.ones_of-2.ensures c.in_err-a.ensures)

pub returns-in_err-b : goal.returns-in_err-b
returns-in_err-b c =
    let x_fits : c.ones_of.result < 2 ^ 64 = omega arith in
    let y_fits : c.ones_of-2.result < 2 ^ 64 = omega arith in
    finds_none c.from_residual-in_err-b.result (λ p. (p.s0 ≡ c.args.s0) × (p.s1 ≡ c.args.s1) × ArePins c.args.table c.args.inputs c.args.choices.now p) c.from_residual-in_err-b.ensures
    (no_b c.args.table c.args.inputs c.ones_of.result c.ones_of-2.result c.args.choices.now c.args.s0 c.args.s1 x_fits y_fits c.ones_of.ensures c.ones_of-2.ensures c.in_err-b.ensures)

pub returns : goal.returns
returns c =
    let x_fits : c.ones_of.result < 2 ^ 64 = omega arith in
    let y_fits : c.ones_of-2.result < 2 ^ 64 = omega arith in (
      refl,
      refl,
      pins_found c.args.table c.args.inputs c.ones_of.result c.ones_of-2.result c.args.choices.now c.args.s0 c.args.s1 x_fits y_fits c.ones_of.ensures c.ones_of-2.ensures
          c.in_ok-a.a c.in_ok-b.b c.requires.first c.requires.second c.in_ok-a.ensures c.in_ok-b.ensures,
    )
