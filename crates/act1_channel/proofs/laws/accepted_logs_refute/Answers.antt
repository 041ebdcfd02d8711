use Rattle.act1_channel.proofs.Refutes.{refutes}
use Rattle.act1_channel.proofs.laws.accepted_logs_refute.Goals as goal

pub returns : goal.returns
returns c = refutes
