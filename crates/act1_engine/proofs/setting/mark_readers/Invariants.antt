use Rattle.act1_engine.proofs.ReaderSteps.{WalkedTo}
use Rattle.act1_engine.proofs.setting.mark_readers.Given as goal

-- the modules of the pins behind the link are marked
abbrev pub invariant-loop-link : goal.invariant-loop-link
invariant-loop-link l = WalkedTo l.wiring.slots.items l.slot l.link l.at l.fn.marks l.marks

abbrev pub decreases-loop-link : goal.decreases-loop-link
decreases-loop-link l = l.link
