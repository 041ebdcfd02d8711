use Rattle.act1_emit.proofs.Realized.{realized}
use Rattle.act1_emit.proofs.laws.files_realize.Goals as goal

pub returns : goal.returns
returns c = realized
