use Rattle.act1_job.proofs.JobWrites.{connections_more}
use Rattle.act1_job.proofs.write.write_connections.Goals as goal

pub loop-connection-preserved : goal.loop-connection-preserved
loop-connection-preserved c =
    connections_more c.args.text.now.items c.loop-connection.text.items _ c.args.connections.now c.loop-connection.connection-index (record { left = 0; right = 0 }) c.loop-connection-test.true c.loop-connection.invariant
    c.in_ok-write_connection.ensures
