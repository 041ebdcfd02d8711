use Rattle.act1_net.proofs.Chosen.{AreFirst}
use Rattle.act1_net.proofs.places.numbers_of.Given as goal

-- the new numbers of the first signals, and the next one
abbrev pub invariant-loop-mark : goal.invariant-loop-mark
invariant-loop-mark l = AreFirst l.marks l.mark-index l.next l.numbers.items
