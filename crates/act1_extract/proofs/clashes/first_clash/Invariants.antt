use Rattle.std.proofs.Common.{ℕ, ◌<◌}
use Rattle.act1_meaning.specs.ArrayNames.{IsClash}
use Rattle.act1_extract.proofs.clashes.first_clash.Given as goal

-- none of the first outputs clashes
abbrev pub invariant-loop-output : goal.invariant-loop-output
invariant-loop-output l = (k : ℕ) → k < l.output → IsClash l.circuit k → ⊥
