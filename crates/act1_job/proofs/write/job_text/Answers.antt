use Rattle.act1_job.proofs.JobWrites.{written}
use Rattle.act1_job.proofs.write.job_text.Goals as goal

pub returns : goal.returns
returns c =
    written c.args.problem.now c.args.budget c.new-text.result.items _ _ _ _ _ _ c.new-text.ensures.items c.in_ok-write_head.ensures
    c.as_slice.ensures c.in_ok-write_tracks.ensures c.as_slice-2.ensures c.in_ok-write_connections.ensures c.in_ok-write_numbers.ensures
