use Rattle.std.proofs.Common.{◌≡◌, length, drop}
use Rattle.act1_net.specs.Gates.{has_against}
use Rattle.act1_net.proofs.left.has_against.Given as goal

-- the marks to come decide
abbrev pub invariant-loop-term : goal.invariant-loop-term
invariant-loop-term l = has_against (drop (length l.yielded) l.terms) (drop (length l.yielded) l.marks) ≡ has_against l.terms l.marks
