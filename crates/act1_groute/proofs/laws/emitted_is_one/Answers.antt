use Rattle.act1_groute.proofs.OneEmission as laws
use Rattle.act1_groute.proofs.laws.emitted_is_one.Goals as goal

pub returns : goal.returns
returns c = laws.emitted_is_one
