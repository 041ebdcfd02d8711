use Rattle.act1_flow.proofs.Sure as laws
use Rattle.act1_flow.proofs.laws.flow_is_sure.Goals as goal

pub returns : goal.returns
returns c = record { ample = laws.flow_succeeds c.accepted_logs_refute.ensures; unspent = laws.flow_is_not_spent; extracts = laws.flow_is_extracted c.formed_are_extracted.ensures }
