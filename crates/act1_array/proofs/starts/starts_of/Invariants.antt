use Rattle.std.proofs.Common.{take, All}
use Rattle.act1_fuses.specs.declared.fuses.StartAt.{StartAt}
use Rattle.act1_fuses.specs.Array.{IsUsed}
use Rattle.act1_array.specs.PartSteps.{AreStarts}
use Rattle.act1_array.proofs.starts.starts_of.Given as goal

-- the starts so far stand at their modules
abbrev pub invariant-loop-start : goal.invariant-loop-start
invariant-loop-start l = AreStarts l.spots (take l.start-index l.file.starts) l.starts × All (λ (start : StartAt). IsUsed l.file.sites start.spot) (take l.start-index l.file.starts)
