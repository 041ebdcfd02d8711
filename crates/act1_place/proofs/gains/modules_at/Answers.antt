use Rattle.std.proofs.Common.{ℕ, ◌+◌, get_or, sym, subst}
use Rattle.std.specs.Prelude.{Some, slice_set}
use Rattle.std.proofs.lemmas.List.{get_or_default}
use Rattle.act1_place.specs.Gains.{AreAt}
use Rattle.act1_place.proofs.SiteFacts.{AreAtSoFar, at_all}
use Rattle.act1_place.proofs.GainFacts.{next_module}
use Rattle.act1_place.proofs.gains.modules_at.Goals as goal

pub loop-module-preserved : goal.loop-module-preserved
loop-module-preserved c =
    let s = get_or c.args.spots.now c.loop-module.module (record { row = 0; column = 0 }) in
    let at = c.loop-module.at.items in
    subst (λ (n : ℕ). AreAtSoFar c.args.rows c.args.columns c.args.spots.now (c.loop-module.module + 1) (slice_set at n (Some c.loop-module.module))) (sym c.site_number.ensures)
    (next_module c.args.rows c.args.columns c.args.spots.now c.loop-module.module at s c.loop-module-test.true (get_or_default c.args.spots.now c.loop-module.module (record { row = 0; column = 0 }) s c.loop-module-test.true) c.requires.inside c.loop-module.invariant)

pub returns : goal.returns
returns c =
    subst (AreAt c.args.rows c.args.columns c.args.spots.now) (sym c.from_vec.ensures)
    (at_all c.args.rows c.args.columns c.args.spots.now c.loop-module.module c.loop-module.at.items c.requires.few_rows c.requires.few_columns c.requires.inside c.requires.apart c.loop-module-test.false c.loop-module.invariant)
