use Rattle.std.proofs.Common.{◌+◌, length}
use Rattle.act1_search.specs.Propagation.{AreKeptOff, IsServed, IsPending}
use Rattle.act1_search.proofs.Growing.{pending_taken, pending_refused, answer_by}
use Rattle.act1_search.proofs.propagate.effect.Goals as goal

pub returns-then-entry-clause-answer : goal.returns-then-entry-clause-answer
returns-then-entry-clause-answer c =
    let p = c.args.problem.now in
    let e = c.entry-entry.result in
    let after = c.spread.new.trail.entries in
    answer_by p after c.spread.result (AreKeptOff p after e.choice (length p.connections)) (IsPending p after (c.args.at + 1))
    (λ off. pending_taken p c.args.trail.now.entries after c.args.at e c.spread.ensures.grows c.entry-entry.ensures.entry c.requires.pending off c.if-entry.true)
    c.spread.ensures.answer

pub returns-else-entry-clause-answer : goal.returns-else-entry-clause-answer
returns-else-entry-clause-answer c =
    let p = c.args.problem.now in
    let e = c.entry-entry.result in
    let after = c.settle.new.trail.entries in
    answer_by p after c.settle.result (IsServed p after e.choice.connection) (IsPending p after (c.args.at + 1))
    (λ served. pending_refused p c.args.trail.now.entries after c.args.at e c.settle.ensures.grows c.entry-entry.ensures.entry c.requires.pending served c.if-entry.false)
    c.settle.ensures.answer
