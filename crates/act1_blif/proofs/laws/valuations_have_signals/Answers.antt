use Rattle.act1_blif.proofs.Signals.{have_signals}
use Rattle.act1_blif.proofs.laws.valuations_have_signals.Goals as goal

pub returns : goal.returns
returns c = have_signals
