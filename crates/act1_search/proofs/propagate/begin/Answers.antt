use Rattle.std.proofs.Common.{arith}
use Rattle.act1_search.proofs.Growing.{grows_on, due_more, pending_first, inside_first}
use Rattle.act1_search.proofs.propagate.begin.Goals as goal

pub returns-in-Some-clause-grows : goal.returns-in-Some-clause-grows
returns-in-Some-clause-grows c = grows_on c.args.problem.now c.args.trail.now.entries c.loop-connection.trail.entries c.settle.new.trail.entries c.loop-connection.invariant.1 c.settle.ensures.grows

pub loop-connection-preserved : goal.loop-connection-preserved
loop-connection-preserved c =
    let p = c.args.problem.now in
    let before = c.loop-connection.trail.entries in
    let after = c.settle.new.trail.entries in
    let g = c.settle.ensures.grows in
    (c.settle.ensures.size, grows_on p c.args.trail.now.entries before after c.loop-connection.invariant.1 g, due_more p before after c.loop-connection.connection g c.loop-connection.invariant.2 c.in-None.ensures.answer)

pub propagate-requires-clause-inside : goal.propagate-requires-clause-inside
propagate-requires-clause-inside c = inside_first c.args.problem.now c.args.trail.now.entries c.loop-connection.trail.entries c.requires.empty c.loop-connection.invariant.1

pub propagate-requires-clause-pending : goal.propagate-requires-clause-pending
propagate-requires-clause-pending c =
    let past = c.loop-connection-test.false in
    let all = c.connection_count-connection-end.ensures in
    pending_first c.args.problem.now c.loop-connection.trail.entries (λ k low. c.loop-connection.invariant.2 k (omega arith))

pub returns-clause-grows : goal.returns-clause-grows
returns-clause-grows c = grows_on c.args.problem.now c.args.trail.now.entries c.loop-connection.trail.entries c.propagate.new.trail.entries c.loop-connection.invariant.1 c.propagate.ensures.grows
