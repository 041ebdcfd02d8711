use Rattle.act1_meaning.proofs.Carried.{carrying_means, carrying_shows}
use Rattle.act1_meaning.proofs.laws.carrying_means.Goals as goal

pub returns : goal.returns
returns c =
    let shows = carrying_shows c.each_cycle.ensures.cycles c.each_cycle.ensures.slaves c.one_valuation.ensures in
    record { means = carrying_means shows; shows = shows }
