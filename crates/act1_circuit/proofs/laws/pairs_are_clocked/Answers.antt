use Rattle.act1_circuit.proofs.PairFacts.{both_clocked, clock_unseen, outside_unclocked, takes_has}
use Rattle.act1_circuit.proofs.laws.pairs_are_clocked.Goals as goal

pub returns : goal.returns
returns c = record { clocked = both_clocked; unseen = clock_unseen; outside = outside_unclocked; sources = takes_has }
