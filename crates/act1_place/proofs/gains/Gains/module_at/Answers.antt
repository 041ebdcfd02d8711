use Rattle.act1_place.proofs.GainFacts.{kept_found}
use Rattle.act1_place.proofs.gains.Gains.module_at.Goals as goal

pub returns-clause-there : goal.returns-clause-there
returns-clause-there c =
    let g = c.self.inside in
    let inside = rw (← c.self.view_is) at c.requires in
    let at = kept_found g.rows g.columns g.nets g.touching g.spots g.at c.self.invariant.0 c.args.site c.site_number.result inside c.site_number.ensures in
    rw (← c.self.view_is, c.as_slice.ensures) at
