use Rattle.act1_place.proofs.GainFacts.{its_nets}
use Rattle.act1_place.proofs.gains.Gains.nets_at.Goals as goal

pub returns-clause-nets : goal.returns-clause-nets
returns-clause-nets c =
    let g = c.self.inside in
    let low = rw (← c.self.view_is) at c.requires in
    let its = (its_nets g.rows g.columns g.nets g.touching g.spots g.at c.self.invariant.0 c.args.module low).0 in
    rw (← c.self.view_is, c.listed_at.ensures, c.as_slice.ensures) its

pub returns-clause-short : goal.returns-clause-short
returns-clause-short c =
    let g = c.self.inside in
    let low = rw (← c.self.view_is) at c.requires in
    let few = (its_nets g.rows g.columns g.nets g.touching g.spots g.at c.self.invariant.0 c.args.module low).1 in
    rw (c.listed_at.ensures, c.as_slice.ensures) few
