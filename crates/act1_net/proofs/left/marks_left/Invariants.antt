use Rattle.std.proofs.Common.{◌≡◌, ◌++◌, length, drop}
use Rattle.act1_net.specs.Gates.{marks_left}
use Rattle.act1_net.proofs.left.marks_left.Given as goal

-- with the marks to come these are all
abbrev pub invariant-loop-term : goal.invariant-loop-term
invariant-loop-term l = l.left ++ marks_left (drop (length l.yielded) l.terms) (drop (length l.yielded) l.marks) ≡ marks_left l.terms l.marks
