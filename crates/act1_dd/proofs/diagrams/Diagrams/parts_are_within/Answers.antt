use Rattle.act1_dd.proofs.Parts.{variable_within, low_within, high_within}
use Rattle.act1_dd.proofs.diagrams.Diagrams.parts_are_within.Goals as goal

pub returns : goal.returns
returns c = λ k n b at within.
    let forks = c.args.self.now in
    let h = c.are_reduced.ensures in
    (variable_within forks h k b at n within, low_within forks h k b at n within, high_within forks h k b at n within)
