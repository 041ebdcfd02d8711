use Rattle.std.proofs.Common.{ℕ, [], ◌∷◌, ◌++◌, ap, ◌∙◌}
use Rattle.act1_search.proofs.Deciding.{first_more}
use Rattle.act1_search.proofs.descent.tracks_of.Goals as goal

pub loop-connection-preserved : goal.loop-connection-preserved
loop-connection-preserved c =
    let tracks = c.loop-connection.tracks in
    first_more c.args.problem.now c.args.watch.now.steps c.args.watch.now.chosen tracks c.push.new.self c.loop-connection.connection c.in-Some.track
    (c.in_ok-push-in-Some.ensures.ok ∙ ap (λ (k : ℕ). tracks ++ k ∷ []) c.from.ensures) c.loop-connection.invariant.0 c.loop-connection.invariant.1 c.in-Some.ensures
