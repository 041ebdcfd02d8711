use Rattle.std.proofs.Common.{◌≡◌, List, ℕ, ◌++◌, length, take}
use Rattle.act1_blifread.specs.NetlistSteps.{AreMarks}
use Rattle.act1_blifread.proofs.marks.is_marked_again.Given as goal

-- the marks are those of the names before and of those so far
abbrev pub invariant-loop-name : goal.invariant-loop-name
invariant-loop-name l =
    (length l.marks.items ≡ length l.initial.marks.items)
    × ((before : List ℕ) → AreMarks (length l.initial.marks.items) before l.initial.marks.items → AreMarks (length l.initial.marks.items) (before ++ take l.name-index l.names) l.marks.items)
