use Rattle.std.proofs.Common.{◌≡◌, ◌++◌}
use Rattle.std.specs.Vec.Iter.{into_iter_items}
use Rattle.act1_flow.proofs.Verdicts.{taken_front}
use Rattle.act1_flow.proofs.assigning.tracks_in.Goals as goal

pub returns-in-Refuted-clause-err : goal.returns-in-Refuted-clause-err
returns-in-Refuted-clause-err c =
    let front = taken_front _ c.loop-verdict.yielded c.loop-verdict.verdict-iterator c.loop-verdict.yielded_by in
    let step = c.in-Some.ensures.steps.0 in
    (c.loop-verdict.tracks, into_iter_items c.next.new.self, c.len.ensures, cc)
