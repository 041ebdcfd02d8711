use Rattle.std.proofs.Common.{take}
use Rattle.act1_search.proofs.Watches.{fact_is}
use Rattle.act1_channel.specs.Acceptance.{choices_of}
use Rattle.act1_search.proofs.watch.Watch.fact.Goals as goal

pub returns : goal.returns
returns c =
    let w = c.self.inside in
    rw (← c.self.view_is, c.fact.ensures.value) (fact_is w.problem.now (choices_of w.steps.items) (take w.depth w.chosen.items) w.trail (take w.depth w.marks.items) w.broken c.args.choice c.self.invariant.0)
