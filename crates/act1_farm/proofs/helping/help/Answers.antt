use Rattle.std.proofs.Common.{List, ℕ, sym, subst, ◌∙◌}
use Rattle.act1_farm.specs.Story.{asked_for, jobs_of}
use Rattle.act1_farm.specs.Steps.{AreChannels}
use Rattle.act1_farm.proofs.Gives.{on_err}
use Rattle.act1_farm.proofs.WholeCourses.{helped_by_none, unbegun_story}
use Rattle.act1_farm.proofs.ChannelLoop.{few_channels}
use Rattle.act1_farm.proofs.helping.help.Goals as goal

pub returns-in_err-channels-clause-began : goal.returns-in_err-channels-clause-began
returns-in_err-channels-clause-began g c = λ some. on_err _ c.from_residual.result (unbegun_story c.args.program.now (jobs_of c.args.budget (asked_for c.args.problems.now)) c.args.jobs (g.H.Helpers.seen c.args.helpers.now) some)

pub ask_all-requires-clause-few : goal.ask_all-requires-clause-few
ask_all-requires-clause-few g c = few_channels c.args.problems.now c.as_slice.result.now (subst (λ (cs : List ℕ). AreChannels c.args.problems.now cs) (sym c.as_slice.ensures) c.in_ok-channels.ensures) c.requires.few

pub returns-then-jobs-eq0-clause-helped : goal.returns-then-jobs-eq0-clause-helped
returns-then-jobs-eq0-clause-helped g c = helped_by_none c.args.program.now c.args.problems.now c.args.budget c.args.jobs _ (g.H.Helpers.seen c.args.helpers.now) c.begin.result c.if-jobs-eq0.true (c.len.ensures ∙ c.in_ok-channels.ensures.each) c.begin.ensures
