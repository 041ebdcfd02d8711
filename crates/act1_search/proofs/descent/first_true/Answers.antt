use Rattle.std.proofs.Common.{refl, arith}
use Rattle.act1_channel.specs.Clauses.{taken}
use Rattle.act1_channel.specs.Assignment.{choice_at}
use Rattle.act1_search.proofs.Deciding.{true_allowed}
use Rattle.act1_search.proofs.descent.first_true.Goals as goal

pub returns : goal.returns
returns c = λ own.
    let allowed = true_allowed c.args.problem.now c.args.watch.now.steps c.args.watch.now.chosen (taken (choice_at c.args.connection own.0)) c.requires.calm.allowed own.1 refl in
    let low = allowed.1 in
    let past = c.loop-track-test.false in
    let all = c.track_count-track-end.ensures in
    c.loop-track.invariant own.0 (omega arith) own.1
