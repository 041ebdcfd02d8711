use Rattle.std.proofs.Common.{ℕ, ◌<◌, length, not, ap, ◌∙◌, arith}
use Rattle.act1_search.specs.Closure.{HasTrueChoice}
use Rattle.act1_search.specs.Deciding.{IsFirstTrue}
use Rattle.act1_search.proofs.Deciding.{no_open, none_given, some_given, true_more}
use Rattle.act1_search.proofs.descent.decision.Goals as goal

pub unreachable-requires : goal.unreachable-requires
unreachable-requires c =
    let p = c.args.problem.now in
    let steps = c.args.watch.now.steps in
    let chosen = c.args.watch.now.chosen in
    let k = c.loop-connection.connection in
    let low = c.loop-connection-test.true in
    let all = c.connection_count-connection-end.ensures in
    let there : k < length p.connections = omega arith in
    let none = none_given c.first_true.result (HasTrueChoice p steps chosen k → ⊥) (λ (t : ℕ). IsFirstTrue p steps chosen k t) (c.is_none.ensures ∙ ap not c.if-is_none.true) c.first_true.ensures in
    no_open p steps chosen k there c.requires.calm.calm none c.in-None.ensures

pub loop-connection-preserved : goal.loop-connection-preserved
loop-connection-preserved c =
    let p = c.args.problem.now in
    let steps = c.args.watch.now.steps in
    let chosen = c.args.watch.now.chosen in
    let k = c.loop-connection.connection in
    let own = some_given c.first_true.result (HasTrueChoice p steps chosen k → ⊥) (λ (t : ℕ). IsFirstTrue p steps chosen k t) (c.is_none.ensures ∙ ap not c.if-is_none.false) c.first_true.ensures in
    true_more p steps chosen k c.loop-connection.invariant (own.0, own.1.is_taken)
