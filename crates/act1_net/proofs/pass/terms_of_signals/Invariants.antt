use Rattle.act1_net.specs.PassSteps.{ArePassing}
use Rattle.act1_net.proofs.pass.terms_of_signals.Given as goal

-- the first signals of the order have their terms
abbrev pub invariant-loop-signal : goal.invariant-loop-signal
invariant-loop-signal l = ArePassing l.blif l.order l.signal-index l.terms.items l.table
