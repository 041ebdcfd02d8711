use Rattle.std.proofs.lemmas.Option.{slice_get-get_or}
use Rattle.std.proofs.Common.{get_or}
use Rattle.act1_channel.specs.Assignment.{choice_at}
use Rattle.act1_refute.proofs.ConflictLemmas.{not_yet}
use Rattle.act1_refute.proofs.steps.assume.Goals as goal

pub put-requires-clause-free : goal.put-requires-clause-free
put-requires-clause-free c =
    let i = c.loop-choice.choice-index in
    not_yet c.args.choices.now i (get_or c.args.choices.now i (choice_at 0 0)) c.loop-choice.trail.entries c.requires.choices.rise
    (slice_get-get_or c.args.choices.now i (choice_at 0 0) c.loop-choice-test.true) c.loop-choice.invariant.1
