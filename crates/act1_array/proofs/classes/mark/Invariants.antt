use Rattle.std.proofs.Common.{◌≡◌, drop, length}
use Rattle.act1_array.specs.ClassSteps.{marked}
use Rattle.act1_array.proofs.classes.mark.Given as goal

-- what is to come decides
abbrev pub invariant-loop-wire : goal.invariant-loop-wire
invariant-loop-wire l = (marked l.class (drop l.wire-index l.wires) l.classes.items ≡ marked l.class l.wires l.initial.classes.items) × (length l.classes.items ≡ length l.initial.classes.items)
