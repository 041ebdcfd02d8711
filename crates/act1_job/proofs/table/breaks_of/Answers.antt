use Rattle.std.proofs.Common.{◌∙◌, ◌++◌, ℕ, [], ◌∷◌, ap}
use Rattle.act1_base.specs.Capped.{at_most}
use Rattle.act1_job.proofs.JobLines.{breaks_more}
use Rattle.act1_job.proofs.table.breaks_of.Goals as goal

pub loop-at-preserved : goal.loop-at-preserved
loop-at-preserved c =
    c.in_ok-push.ensures.ok
    ∙ ap (λ (n : ℕ). c.loop-at.breaks ++ n ∷ []) (c.at_most.ensures ∙ ap (at_most 64) c.number_at.ensures)
    ∙ breaks_more c.loop-at.breaks c.args.words.now c.loop-at.at c.loop-at-test.true c.loop-at.invariant
