use Rattle.std.proofs.Common.{inr}
use Rattle.act1_frame.proofs.Stages.{on_ok, on_err}
use Rattle.act1_top.specs.SearchCommand.{SearchEnds, SearchMayEnd}
use Rattle.act1_top.proofs.search_command.search_ending.Goals as goal

pub returns-clause-ok : goal.returns-clause-ok
returns-clause-ok g c =
    let before = g.F.Files.seen c.args.files.now in
    let after = g.F.Files.seen c.job_under.new.files in
    on_ok (SearchEnds c.args.words.now.answer c.in_ok-job.job) (SearchMayEnd c.args.words.now before after) (λ e h. inr (c.in_ok-job.job, c.in_ok-job.ensures.ok, h)) c.search_ends.result c.search_ends.ensures.ok

pub returns-clause-err : goal.returns-clause-err
returns-clause-err g c =
    let before = g.F.Files.seen c.args.files.now in
    let after = g.F.Files.seen c.job_under.new.files in
    on_err (SearchEnds c.args.words.now.answer c.in_ok-job.job) (SearchMayEnd c.args.words.now before after) (λ e h. inr (c.in_ok-job.job, c.in_ok-job.ensures.ok, h)) c.search_ends.result c.search_ends.ensures.err
