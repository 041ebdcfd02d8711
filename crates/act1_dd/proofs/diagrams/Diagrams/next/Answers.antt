use Rattle.act1_dd.proofs.Parts.{variable_within, next_low, next_high}
use Rattle.act1_dd.proofs.diagrams.Diagrams.next.Goals as goal

pub bounds-values-branch : goal.bounds-values-branch
bounds-values-branch c = variable_within c.args.self.now c.are_reduced.ensures c.args.node c.branch-branch.result c.branch-branch.ensures.place _ c.requires.within

pub returns-then-values-branch : goal.returns-then-values-branch
returns-then-values-branch c = next_high c.args.self.now c.are_reduced.ensures c.args.node c.branch-branch.result c.branch-branch.ensures.place c.args.values.now c.requires.within c.if-values-branch.true

pub returns-else-values-branch : goal.returns-else-values-branch
returns-else-values-branch c = next_low c.args.self.now c.are_reduced.ensures c.args.node c.branch-branch.result c.branch-branch.ensures.place c.args.values.now c.requires.within c.if-values-branch.false
